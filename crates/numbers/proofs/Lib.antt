pub mod Sizes
pub mod Rounding
pub mod Division
pub mod Operations
pub mod Decimals
pub mod Numerals
pub mod ReadBack
pub mod Canonical
mod Samples
