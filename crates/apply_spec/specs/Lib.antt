pub mod Carrying
pub mod Rules
pub mod Carried
