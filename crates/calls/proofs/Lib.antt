pub mod Rooms
pub mod Answers
pub mod Sheets
pub mod Calls
pub mod Followed
pub mod Early
pub mod Demand
mod Lists
