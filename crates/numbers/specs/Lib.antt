pub mod Range
pub mod Rounding
pub mod Nearest
pub mod Arithmetic
pub mod Decimal
pub mod Numerals
