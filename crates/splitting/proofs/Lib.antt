pub mod Linking
mod Opening
pub mod Ordering
