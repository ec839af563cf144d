-- What an answer of Plan has to mean: demand 3, as far as it speaks of orders.
use Rattle.std.specs.Prelude.{◌≡◌, List, ℕ, zero, suc, ◌<◌, ℤ}
use Rattle.kinds.specs.Kinds.{value_code}
use Rattle.cells.specs.Table.{kind}
use Rattle.cells.specs.Reaches.{Reaches}
use Rattle.order.specs.Order.{NoCycle, Proper, Whole, Answer, cycle, whole, mixed}
use Rattle.order.specs.Tangles.{ClearSideBySide}

-- v is the smallest V that reaches itself
pub record SmallestCycle (t : List ℤ) (v : ℕ) : Type 0 where
  pub value : kind t v ≡ value_code
  pub itself : Reaches t v v
  pub smallest : (w : ℕ) → w < v → kind t w ≡ value_code → Reaches t w w → ⊥

-- what row 16 finds, by its place
abbrev pub Row16 : List ℤ → ℕ → Type 0
Row16 t zero = NoCycle t
Row16 t (suc v) = SmallestCycle t (suc v)

-- 16 with its place, and no order is proper; or a proper order that is whole; or a proper order where no proper order is whole. And, of
-- the order that is listed, order 2's "the values of a Group are side by side if neither it nor a Group around it is in a block of several"
abbrev pub PlanMeans : List ℤ → Answer → Type 0
PlanMeans t (cycle v) = SmallestCycle t v × ((o : List ℕ) → Proper t o → ⊥)
PlanMeans t (whole o) = Proper t o × Whole t o × ClearSideBySide t o
PlanMeans t (mixed o) = Proper t o × ((p : List ℕ) → Proper t p → Whole t p → ⊥) × ClearSideBySide t o
