use mathlib.Core.Path.{◌≡◌}
use Prim.Native.Nat.{◌≤◌, ◌<◌}
use Rattle.reach.specs.Chains.{Hangs}
use Rattle.reach.proofs.Visits.{Going, unbegun}
use Rattle.reach.proofs.LinkChains.+visit.Given as goal

abbrev pub decreases-visit : goal.decreases-visit
decreases-visit l = unbegun l.self.now.sheet.n l.state.now

-- as between visits since d is begun, and a line of d's chain at hand; the first is what a visit asks, as it asks it
abbrev pub invariant-loop-x : goal.invariant-loop-x
invariant-loop-x l =
    (unbegun l.self.sheet.n l.state < unbegun l.self.sheet.n l.fn.state)
    × Going l.self.sheet.cells.now l.self.sheet.n l.self.column l.initial.state l.initial.square l.state l.square × (l.x ≤ l.self.sheet.n)
    × ((l.x ≡ 0 → ⊥) → Hangs l.self.sheet.cells.now l.self.column l.d l.x)

abbrev pub decreases-loop-x : goal.decreases-loop-x
decreases-loop-x l = l.x
