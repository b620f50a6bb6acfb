pub mod Filled
pub mod Pushes
