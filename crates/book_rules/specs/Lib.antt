pub mod Books
pub mod texts
