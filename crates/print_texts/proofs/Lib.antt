pub mod Verdicts
pub mod Lengths
