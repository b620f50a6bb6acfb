pub mod Answers
pub mod Carries
pub mod filling
