pub mod Parts
pub mod Reaching
pub mod Steps
pub mod Rooms
mod Rows
pub mod Merging
pub mod Gathering
