use Prim.Native.Nat.{◌-◌, ◌≤◌}
use Rattle.needs.specs.Needs.{Lifting}
use Rattle.needs.proofs.lift.Given as goal

-- l.k is the bound of what is left: the labels from it up are done
abbrev pub invariant-loop-k : goal.invariant-loop-k
invariant-loop-k l = (2 ≤ l.k) × Lifting l.sheet.cells.now l.sheet.n (l.k - 1) l.square
