-- In the paper's order: Read and Name the calls, Keeps the rules, AnyLength those that a text with another number in it is judged by;
-- ReadStages what the functions between promise.
pub mod Read
pub mod Name
pub mod Keeps
pub mod AnyLength
pub mod ReadStages
