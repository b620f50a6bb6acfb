pub mod Placing
pub mod Taking
pub mod Going
pub mod Putting
pub mod Lines
