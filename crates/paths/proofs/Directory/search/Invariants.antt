use mathlib.Core.Path.{◌≡◌}
use Prim.Native.Nat.{◌≤◌}
use lib.Seq.{slice}
use Rattle.std.specs.Prelude.{None}
use Rattle.paths.specs.Buckets.{start_of, linked_member}
use Rattle.paths.specs.Paths.{head_from}
use Rattle.paths.proofs.Chains.{Walking}
use Rattle.paths.proofs.Directory.search.Given as goal

abbrev pub invariant-loop-m : goal.invariant-loop-m
invariant-loop-m l =
    let i = l.self.index in
    let t = l.self.table.now in
    let w = slice l.from l.to i.text.now in
    (l.found ≡ None)
    × Walking i.text.now t i.links.now w (start_of i.starts.now 0) (linked_member i.text.now t i.starts.now i.links.now l.g l.hash w) l.m

abbrev pub decreases-loop-m : goal.decreases-loop-m
decreases-loop-m l = l.m

abbrev pub invariant-groups : goal.invariant-groups
invariant-groups l =
    let i = l.self.index in
    let t = l.self.table.now in
    let w = slice l.from l.to i.text.now in
    (l.g ≤ i.n) × (l.found ≡ None) × (head_from i.text.now t i.n w l.g ≡ head_from i.text.now t i.n w l.group)

abbrev pub decreases-groups : goal.decreases-groups
decreases-groups l = l.g
