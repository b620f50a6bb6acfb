-- The search on the pair's table: a term is a number.
pub mod Codes
