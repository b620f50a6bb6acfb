pub mod Choices
pub mod Answers
