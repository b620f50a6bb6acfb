pub mod Verdicts
pub mod Rules
pub mod Judged
pub mod Values
