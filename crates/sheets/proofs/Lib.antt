pub mod Bytes
pub mod Lines
pub mod Sheets
pub mod Tables
pub mod Agree
pub mod NumberPut
mod Samples
