-- In the paper's order: Order holds "Reaching and planning", Tangles what order 2's blocks are as a relation, PlanMeans what Plan's answer
-- has to mean, WholePlan document 01's own rule, Following rows 17 and 18, Rows16to18 what these rows find, Evaluating what "working down
-- an order" is. LabelLists, Closure, Placing and Blocks are what they are made of.
pub mod LabelLists
pub mod Closure
pub mod Placing
pub mod Blocks
pub mod Order
pub mod Tangles
pub mod WholePlan
pub mod PlanMeans
pub mod Following
pub mod Rows16to18
pub mod Evaluating
