pub mod Values
pub mod constants
pub mod canonical
