pub mod Tests
pub mod Rows
pub mod Laws
pub mod Clauses
pub mod Codes
pub mod Plans
pub mod Enumerated
pub mod ByCode
