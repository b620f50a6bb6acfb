pub mod Places
pub mod Build
pub mod Unknown
pub mod Loops
pub mod Passes
pub mod Picking
pub mod Fields
