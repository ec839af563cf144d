pub mod Sums
pub mod Numbers
pub mod Structure
pub mod Redone
pub mod Dependents
mod Owners
mod Down
mod Windows
pub mod Applied
pub mod EveryPair
