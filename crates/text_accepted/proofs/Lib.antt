pub mod Accepted
pub mod Folds
