pub mod Chains
pub mod Orders
pub mod Opening
pub mod Expanded
pub mod Progress
pub mod Turns
