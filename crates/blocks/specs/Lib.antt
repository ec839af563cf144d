pub mod Found
pub mod Search
pub mod Merged
