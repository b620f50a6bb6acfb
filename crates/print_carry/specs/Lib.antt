pub mod Carry
pub mod Values
