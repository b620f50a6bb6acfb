pub mod Filled
pub mod Terms
