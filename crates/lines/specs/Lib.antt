pub mod Fields
pub mod Lines
pub mod LineSteps
pub mod Scanned
pub mod Lined
