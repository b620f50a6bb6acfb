pub mod Version
pub mod Answers
pub mod Values
pub mod Asks
pub mod AskValues
pub mod Carries
pub mod CarryValues
