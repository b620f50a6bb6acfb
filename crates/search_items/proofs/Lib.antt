pub mod Collected
pub mod Agree
pub mod codes
