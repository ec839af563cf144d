use mathlib.Core.Path.{◌≡◌}
use mathlib.Core.Bool.{◌&&◌}
use Prim.Native.Nat.{ℕ, ◌+◌, ◌≤◌}
use lib.Dec.{ltb}
use lib.ListN.{length}
use Rattle.order.specs.Order.{is_v}
use Rattle.marks.specs.Marks.{mark}
use Rattle.reach.specs.MarkRows.{width}
use Rattle.following.proofs.mark_values.Given as goal

abbrev pub invariant-loop-v : goal.invariant-loop-v
invariant-loop-v l =
    (length l.left ≡ length l.initial.left) × (1 ≤ l.v) × (l.v ≤ l.sheet.n + 1)
    × ((q : ℕ) → mark l.left (width l.sheet.n) 0 q ≡ (ltb q l.v && is_v l.sheet.cells.now q))
