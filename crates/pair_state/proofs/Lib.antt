pub mod Arrays
pub mod Cases
pub mod Meets
