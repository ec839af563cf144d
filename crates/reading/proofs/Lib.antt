pub mod Resolved
pub mod Accepted
pub mod Stage
pub mod Named
pub mod Padding
pub mod Keeps
