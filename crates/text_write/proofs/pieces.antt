pub mod Pieces
pub mod Refusals
pub mod Stored
pub mod Bounds
