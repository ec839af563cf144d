-- Figures holds what each value comes to, free of any order, and the rules that single these results out; Entered what it means that
-- no value is read before it has been evaluated; Down what the code asks that works down an order list.
pub mod Figures
pub mod Entered
pub mod Down
