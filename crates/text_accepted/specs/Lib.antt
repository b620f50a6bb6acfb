pub mod Accepted
pub mod linearity
pub mod rules
pub mod slips
