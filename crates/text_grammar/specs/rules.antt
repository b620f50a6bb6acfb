-- The text of rules with both sides: the grammar, the refusals and their places, plain text, limits. Specs and their proofs only.
pub mod Sides
pub mod Place
pub mod Tokens
pub mod Read
pub mod Sharp
pub mod Plain
pub mod Limits
pub mod Judge
