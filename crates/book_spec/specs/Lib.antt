pub mod Picks
pub mod Books
pub mod Reading
