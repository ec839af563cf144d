use mathlib.Core.Path.{◌≡◌}
use Prim.Native.Nat.{◌+◌, ◌-◌, ◌≤◌}
use Rattle.refusals.specs.Refusal.{first_bad}
use Rattle.tree.specs.Tree.{structure_bad}
use Rattle.tree.proofs.first_bad.Given as goal

abbrev pub invariant-loop-label : goal.invariant-loop-label
invariant-loop-label l = (1 ≤ l.label) × (l.label ≤ l.n + 1) × (first_bad (structure_bad l.table) l.label (l.n + 1 - l.label) ≡ first_bad (structure_bad l.table) 1 l.n)
