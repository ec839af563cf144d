-- Print holds what the program prints, Writing what the functions between promise.
pub mod Print
pub mod Writing
