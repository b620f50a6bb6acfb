pub mod Commits
pub mod Examples
