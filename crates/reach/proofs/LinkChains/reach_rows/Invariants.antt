use mathlib.Core.Path.{◌≡◌}
use Prim.Native.Nat.{ℕ, ◌≤◌, ◌<◌}
use lib.ListN.{get_or}
use Rattle.kinds.specs.Kinds.{value_code}
use Rattle.cells.specs.Table.{kind}
use Rattle.reach.specs.declared.RowState.TheVariants.{New}
use Rattle.reach.proofs.Visits.{Going}
use Rattle.reach.proofs.LinkChains.reach_rows.Given as goal

-- every value so far is begun
abbrev pub invariant-loop-v : goal.invariant-loop-v
invariant-loop-v l =
    Going l.self.sheet.cells.now l.self.sheet.n l.self.column l.initial.state l.initial.square l.state l.square
    × ((u : ℕ) → u < l.v → 1 ≤ u → kind l.self.sheet.cells.now u ≡ value_code → get_or l.state u New ≡ New → ⊥)
