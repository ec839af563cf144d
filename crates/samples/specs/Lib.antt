-- Sample holds what is said of a sheet and what the definitions give for it, Samples the table.
pub mod Sample
pub mod Samples
