pub mod Carrying
pub mod Fills
pub mod Slips
pub mod Rules
pub mod Carried
pub mod Examples
