-- The lines of the search for one field pair.
pub mod Answers
