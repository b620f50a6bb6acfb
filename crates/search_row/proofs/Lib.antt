pub mod Left
pub mod Solved
pub mod Turns
pub mod Finding
pub mod Twice
pub mod Lines
pub mod Agreed
pub mod Settled
