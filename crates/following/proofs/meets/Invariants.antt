use mathlib.Core.Path.{◌≡◌}
use mathlib.Core.Bool.{true}
use Prim.Native.Nat.{ℕ, ◌*◌, ◌≤◌, ◌<◌}
use Rattle.marks.specs.Marks.{mark}
use Rattle.following.proofs.meets.Given as goal

abbrev pub invariant-loop-j : goal.invariant-loop-j
invariant-loop-j l = (l.j ≤ l.w) × ((q : ℕ) → q < 64 * l.j → mark l.square l.w l.v q ≡ true → mark l.left l.w 0 q ≡ true → ⊥)
