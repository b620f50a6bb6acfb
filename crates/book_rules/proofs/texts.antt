pub mod Books
pub mod Keeping
pub mod Lines
pub mod Pairs
