pub mod Parts
pub mod Keeping
pub mod Finding
pub mod Found
