pub mod Cut
pub mod Lines
pub mod Rising
pub mod Variables
pub mod Examples
pub mod Exact
pub mod Starred
