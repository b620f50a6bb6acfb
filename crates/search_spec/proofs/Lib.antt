pub mod Search
pub mod Short
pub mod Shown
pub mod Lines
pub mod Starred
