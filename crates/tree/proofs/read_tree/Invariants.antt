use Prim.Native.Nat.{◌+◌, ◌≤◌}
use Rattle.tree.proofs.Going.{Going}
use Rattle.tree.proofs.read_tree.Given as goal

abbrev pub invariant-loop-label : goal.invariant-loop-label
invariant-loop-label l = (1 ≤ l.label) × (l.label ≤ l.n + 1) × Going l.initial.table l.n l.label l.table l.argument l.level
