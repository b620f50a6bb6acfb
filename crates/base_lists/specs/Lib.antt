pub mod Arrays
pub mod Equality
pub mod Seqs
pub mod Tables
pub mod Truths
