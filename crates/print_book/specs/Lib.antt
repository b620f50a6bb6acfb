pub mod Book
pub mod Runs
