use mathlib.Core.Path.{◌≡◌}
use Prim.Native.Nat.{◌-◌, ◌≤◌}
use lib.ListN.{drop}
use lib.Seq.{slice}
use Rattle.cells.specs.Characters.{dot}
use Rattle.text.specs.Pieces.{cut}
use Rattle.paths.specs.Paths.{descended}
use Rattle.paths.proofs.Resolving.{later}
use Rattle.paths.proofs.Directory.descend.Given as goal

abbrev pub invariant-loop-at : goal.invariant-loop-at
invariant-loop-at l =
    let i = l.self.index in
    let s = i.text.now in
    let t = l.self.table.now in
    (l.m ≤ i.n) × (l.at ≤ l.to) × (descended s t i.n l.m (later s l.at l.to) ≡ descended s t i.n l.head (drop 1 (cut dot (slice l.from l.to s))))

abbrev pub decreases-loop-at : goal.decreases-loop-at
decreases-loop-at l = l.to - l.at
