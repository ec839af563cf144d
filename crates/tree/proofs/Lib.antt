pub mod Coded
pub mod Codes
pub mod Parts
pub mod Users
pub mod Labels
pub mod Owners
pub mod Likes
pub mod Writes
pub mod Passes
pub mod Told
pub mod Going
pub mod Treed
mod Samples
