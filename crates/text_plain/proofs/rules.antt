pub mod Sides
pub mod Lengths
pub mod Answers
pub mod Again
