pub mod Answers
pub mod Lengths
pub mod Again
