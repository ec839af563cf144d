pub mod Steps
pub mod Closure
pub mod Range
pub mod Local
pub mod Stored
pub mod Leaves
pub mod Entries
mod Answers
