use Prim.Native.Nat.{◌+◌, ◌≤◌}
use Rattle.paths.proofs.Allotting.{Summed}
use Rattle.paths.proofs.add_up.Given as goal

abbrev pub invariant-loop-group : goal.invariant-loop-group
invariant-loop-group l = (l.group ≤ l.n + 1) × Summed l.initial.starts l.group l.starts
