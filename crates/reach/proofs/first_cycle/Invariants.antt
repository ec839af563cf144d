use mathlib.Core.Path.{◌≡◌}
use Prim.Native.Nat.{ℕ, ◌<◌}
use Rattle.kinds.specs.Kinds.{value_code}
use Rattle.cells.specs.Table.{kind}
use Rattle.cells.specs.Reaches.{Reaches}
use Rattle.reach.proofs.first_cycle.Given as goal

-- no value so far reaches itself
abbrev pub invariant-loop-v : goal.invariant-loop-v
invariant-loop-v l = (u : ℕ) → u < l.v → kind l.sheet.cells.now u ≡ value_code → Reaches l.sheet.cells.now u u → ⊥
