pub mod Heads
pub mod Fails
pub mod Tests
pub mod Moves
pub mod Values
