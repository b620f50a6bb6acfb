pub mod Holds
pub mod Own
pub mod Known
pub mod Bindings
pub mod Moved
pub mod Agree
pub mod Runs
pub mod Rooted
