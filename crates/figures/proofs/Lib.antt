pub mod Rows
pub mod Working
pub mod Same
pub mod Loop
pub mod Early
pub mod Entering
mod Samples
