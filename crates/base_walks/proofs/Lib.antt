pub mod Walk
pub mod Returns
