pub mod Said
pub mod Asks
pub mod Carries
