pub mod Matches
pub mod Values
pub mod answers
