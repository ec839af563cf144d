pub mod Bytes
pub mod Words
pub mod Pieces
pub mod Forms
pub mod Scans
