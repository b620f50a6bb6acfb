pub mod Found
pub mod Values
