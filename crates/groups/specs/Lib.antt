pub mod Members
pub mod Opening
pub mod Opened
