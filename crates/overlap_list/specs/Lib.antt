pub mod Listing
pub mod Answers
pub mod shared
pub mod asking
