pub mod Walks
pub mod Agree
pub mod Counts
pub mod Found
pub mod Accept
pub mod Runs
pub mod Items
