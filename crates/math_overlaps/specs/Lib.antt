-- Overlap lists of two rules, over any type order, constants and names.
pub mod Substitutions
pub mod Constants
pub mod Shapes
pub mod Candidates
pub mod Joins
pub mod Entries
pub mod Overlaps
pub mod Solutions
