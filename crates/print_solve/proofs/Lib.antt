pub mod Pieces
pub mod Fields
pub mod Said
pub mod Lengths
pub mod Examples
