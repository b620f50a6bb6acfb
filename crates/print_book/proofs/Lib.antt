pub mod Stops
pub mod Runs
