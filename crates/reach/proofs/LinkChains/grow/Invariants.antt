use mathlib.Core.Path.{◌≡◌}
use Prim.Native.Nat.{◌≤◌}
use lib.ListN.{take}
use Rattle.reach.specs.Chains.{Hangs}
use Rattle.reach.proofs.Spread.{Growing}
use Rattle.reach.proofs.LinkChains.grow.Given as goal

abbrev pub invariant-loop-x : goal.invariant-loop-x
invariant-loop-x l =
    (l.x ≤ l.self.sheet.n)
    × ((l.x ≡ 0 → ⊥) → Hangs l.self.sheet.cells.now l.self.column l.e l.x) × (l.height ≤ l.self.sheet.n)
    × Growing l.self.sheet.cells.now l.self.sheet.n l.self.column l.d l.e l.initial.square l.top l.square (take l.height l.stack) l.x

abbrev pub decreases-loop-x : goal.decreases-loop-x
decreases-loop-x l = l.x
