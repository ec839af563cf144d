pub mod Tree
pub mod Treed
pub mod TreeSteps
