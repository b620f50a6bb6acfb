pub mod Answers
pub mod own
