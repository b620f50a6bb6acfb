pub mod Numbers
pub mod Heads
pub mod Failing
pub mod Cases
pub mod Moving
pub mod Telling
