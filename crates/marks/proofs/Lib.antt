pub mod Bits
pub mod Squares
pub mod Walking
