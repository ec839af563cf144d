pub mod Writing
mod Sizes
mod Lines
pub mod Runs
pub mod Bounds
