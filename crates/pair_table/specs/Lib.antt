pub mod Notes
pub mod Pairs
