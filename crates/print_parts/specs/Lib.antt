pub mod Verdicts
pub mod sizes
