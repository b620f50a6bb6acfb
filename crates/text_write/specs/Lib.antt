pub mod Sizes
pub mod Room
pub mod Answers
pub mod pieces
