pub mod Arrays
pub mod Stores
pub mod Digits
pub mod Terms
pub mod Rows
pub mod Answers
