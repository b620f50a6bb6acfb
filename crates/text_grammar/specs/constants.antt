-- The theory at document 01's types, constants and variables. Specs and their proofs only.
pub mod Constants
pub mod Matching
pub mod Written
