-- In the paper's order: Buffers holds row 4, Plan, Run and Follow the calls, Demand what demand 3 asks of them, Leaves all that each call
-- leaves; CallStages what the functions between promise.
pub mod Buffers
pub mod Plan
pub mod Run
pub mod Follow
pub mod Demand
pub mod Leaves
pub mod CallStages
