-- Row 16 by the rows of values.
use mathlib.Core.Path.{◌≡◌, refl, sym, ap, ◌∙◌}
use mathlib.Core.Logic.{inl}
use mathlib.Core.List.{List}
use mathlib.Core.Bool.{true, false}
use Prim.Native.Nat.{ℕ, zero, suc, ◌≤◌, ◌<◌}
use native.Mathlib.Omega.{arith}
use lib.IntN.{ℤ}
use Rattle.std.proofs.Common.{Some, None}
use Rattle.kinds.proofs.Codes.{value_body}
use Rattle.kinds.specs.Kinds.{value_code}
use Rattle.cells.specs.Table.{kind}
use Rattle.cells.specs.Accepted.{Accepted}
use Rattle.cells.specs.Reaches.{Reaches}
use Rattle.order.specs.Order.{place16}
use Rattle.order.specs.PlanMeans.{SmallestCycle, Row16}
use Rattle.order.proofs.Tests.{both_ways}
use Rattle.order.proofs.Planned.{place16_exactly}
use Rattle.marks.specs.Marks.{mark}
use Rattle.reach.specs.Links.{Column}
use Rattle.reach.specs.MarkRows.{width, AllMarkRows}
use Rattle.reach.specs.FoundPlace.{found_place}
use Rattle.reach.proofs.Links.{touch_body, itself_exact}

row16_at : (t : List ℤ) (v : ℕ) → 1 ≤ v → SmallestCycle t v → Row16 t v
row16_at t zero h s = absurd (omega arith)
row16_at t (suc v) h s = s

found_some : (v : ℕ) → 1 ≤ v → found_place v ≡ Some v
found_some zero h = absurd (omega arith)
found_some (suc v) h = refl

module _ (t : List ℤ) (n : ℕ) (ok : Accepted t n) where
  pub smallest_is : (v : ℕ) → 1 ≤ v → kind t v ≡ value_code → Reaches t v v → ((u : ℕ) → u < v → kind t u ≡ value_code → Reaches t u u → ⊥)
      → Some v ≡ found_place (place16 t n)
  smallest_is v h k r f = sym (ap found_place ((place16_exactly t n ok v).1 (row16_at t v h (record { value = k; itself = r; smallest = f }))) ∙ found_some v h)

  pub none_is : ((v : ℕ) → kind t v ≡ value_code → Reaches t v v → ⊥) → None ≡ found_place (place16 t n)
  none_is f = sym (ap found_place ((place16_exactly t n ok 0).1 f))

  module _ (j : ℕ) (col : Column j) (square : List ℕ) (rows : AllMarkRows t n j square) (v : ℕ) (k : kind t v ≡ value_code) where
    pub cycle_marked : mark square (width n) v v ≡ true → Reaches t v v
    cycle_marked m = (itself_exact t j v col).0 (touch_body t n ok j col ((rows.values v k v).0 m) (rw k value_body))

    pub cycle_unmarked : mark square (width n) v v ≡ false → Reaches t v v → ⊥
    cycle_unmarked m r = both_ways (mark square (width n) v v) ((rows.values v k v).1 (record { end = v; links = (itself_exact t j v col).1 r; around = inl refl })) m
