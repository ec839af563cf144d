pub mod Links
pub mod MarkRows
pub mod Chains
pub mod Turns
pub mod FoundPlace
