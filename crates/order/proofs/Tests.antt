-- Tests stand with the cells.
pub use Rattle.cells.proofs.Tests.{both_ways, and_left, and_right, and_intro, or_cases, or_left, or_right, or_none_left}
pub use Rattle.cells.proofs.Tests.{or_none_right, not_so, so_or_not, and_not, not_and, one_le, one_true, one_false, one_in}
