pub mod Rows
pub mod Refusal
