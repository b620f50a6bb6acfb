pub mod Said
pub mod Lengths
pub mod Examples
