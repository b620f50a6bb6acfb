pub mod Constants
pub mod Linear
pub mod Matching
pub mod Written
pub mod Examples
