pub mod Links
pub mod Reading
pub mod Scratch
mod Chaining
mod Raise
mod Spread
pub mod Visits
mod Cycle
