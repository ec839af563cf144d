-- Rows 16 to 18 of document 01's table of refusals, of a table t of n labels and an order list.
use Rattle.std.specs.Prelude.{List, ℕ, ℤ}
use Rattle.refusals.specs.Rows.{cycle_row, listed_row, early_row}
use Rattle.refusals.specs.Refusal.{Verdict, or_else, found_at}
use Rattle.order.specs.Order.{place16}
use Rattle.order.specs.Following.{place17, place18}

unfoldable pub cycle_bad : List ℤ → ℕ → Verdict
cycle_bad t n = found_at cycle_row (place16 t n)

-- Follow only
unfoldable pub order_bad : List ℤ → ℕ → List ℤ → Verdict
order_bad t n cells = or_else (found_at listed_row (place17 t n cells)) (found_at early_row (place18 t n cells))
