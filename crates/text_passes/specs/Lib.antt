pub mod Places
pub mod Reader
pub mod Build
pub mod Passes
pub mod Fields
pub mod Notes
