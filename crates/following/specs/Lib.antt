pub mod Left
pub mod Told
