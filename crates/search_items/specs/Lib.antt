pub mod Items
pub mod Substitution
pub mod Values
pub mod codes
