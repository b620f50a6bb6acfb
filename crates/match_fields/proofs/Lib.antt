pub mod Walks
pub mod Shapes
