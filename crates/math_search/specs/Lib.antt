-- The search for one field pair, over any type order, constants, variables and list variables.
pub mod Problems
pub mod Fresh
pub mod Rules
pub mod Termination
pub mod Queue
pub mod Runs
pub mod Answers
pub mod Pairs
pub mod worklist
