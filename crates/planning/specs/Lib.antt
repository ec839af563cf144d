pub mod Listing
pub mod PlanLength
pub mod Plans
