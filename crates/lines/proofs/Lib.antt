pub mod Fields
pub mod Letters
pub mod Splits
pub mod Rows
pub mod Scanned
pub mod Heads
pub mod Pass
pub mod Lined
mod Samples
