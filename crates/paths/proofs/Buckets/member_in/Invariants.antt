use lib.Seq.{slice}
use Rattle.paths.specs.Buckets.{start_of, linked_member}
use Rattle.paths.proofs.Chains.{Walking}
use Rattle.paths.proofs.Buckets.member_in.Given as goal

abbrev pub invariant-loop-m : goal.invariant-loop-m
invariant-loop-m l =
    let d = l.self in
    let i = d.index in
    let w = slice l.from l.to i.text.now in
    Walking i.text.now d.table.now i.links.now w (start_of i.starts.now 0) (linked_member i.text.now d.table.now i.starts.now i.links.now l.group l.hash w) l.m

abbrev pub decreases-loop-m : goal.decreases-loop-m
decreases-loop-m l = l.m
