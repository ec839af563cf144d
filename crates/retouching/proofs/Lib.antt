pub mod Rows
pub mod NumbersPut
pub mod AsRun
mod Calls
