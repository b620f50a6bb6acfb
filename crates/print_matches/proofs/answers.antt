pub mod Loops
pub mod Noted
pub mod Values
