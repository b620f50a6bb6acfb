pub mod Refusals
pub mod Sizes
pub mod Placed
pub mod Stored
