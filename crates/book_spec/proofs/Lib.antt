pub mod Picks
pub mod Witness
pub mod Books
pub mod Pairs
pub mod Reading
pub mod Examples
