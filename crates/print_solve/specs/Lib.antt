pub mod Solve
pub mod Values
pub mod search
