pub mod Lists
mod Counts
mod Going
mod Ordered
