pub mod Row
pub mod Machine
pub mod turns
pub mod starts
pub mod tables
