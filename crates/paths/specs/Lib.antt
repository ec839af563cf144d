pub mod Names
pub mod Paths
pub mod TargetCells
pub mod Buckets
pub mod Leads
