-- In order 4's sequence: Pairs holds the list of pairs and the table with their numbers, Redone the values that a pair has worked out
-- again and the figures stored for it, PairRedone what is promised of them; RedoStages what the functions between promise.
pub mod Pairs
pub mod Redone
pub mod PairRedone
pub mod RedoStages
