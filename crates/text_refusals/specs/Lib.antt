pub mod Refusals
pub mod unknown
pub mod verdicts
