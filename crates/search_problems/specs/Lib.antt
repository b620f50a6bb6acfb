pub mod Values
pub mod Applied
pub mod Steps
pub mod Roots
pub mod variables
