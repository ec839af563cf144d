use mathlib.Core.Path.{◌≡◌}
use mathlib.Core.List.{List}
use Prim.Native.Nat.{ℕ, ◌≤◌, ◌<◌}
use Rattle.cells.specs.Table.{owner}
use Rattle.paths.specs.Buckets.{hash_of}
use Rattle.paths.specs.Paths.{head_from}
use Rattle.paths.proofs.Directory.outward.Given as goal

abbrev pub invariant-loop-g : goal.invariant-loop-g
invariant-loop-g l =
    let i = l.self.index in
    let t = l.self.table.now in
    (l.g < l.group) × (l.g ≤ i.n)
    × ((w : List ℕ) → l.hash ≡ hash_of w → head_from i.text.now t i.n w l.g ≡ head_from i.text.now t i.n w (owner t l.group))

abbrev pub decreases-loop-g : goal.decreases-loop-g
decreases-loop-g l = l.g
