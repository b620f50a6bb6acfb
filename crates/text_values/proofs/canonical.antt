pub mod Filled
pub mod Arrays
pub mod Terms
