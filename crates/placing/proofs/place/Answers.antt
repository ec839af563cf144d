use mathlib.Core.Path.{sym, ◌∙◌}
use native.Mathlib.Omega.{arith}
use Rattle.placing.proofs.Ordered.{placed_as_listed}
use Rattle.placing.proofs.place.Goals as goal

pub returns-then-are_in_order : goal.returns-then-are_in_order
returns-then-are_in_order c = record {
  cells = c.copy_items.ensures ∙ sym (placed_as_listed _ _ c.requires.fits.in_rows.rising (c.are_in_order.ensures c.if-are_in_order.true));
  within = omega arith;
}
