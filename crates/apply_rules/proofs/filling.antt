pub mod Collected
pub mod Loops
pub mod Values
pub mod Fills
