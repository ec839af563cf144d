use Rattle.paths.proofs.Allotting.{count_room, count_small, counting_start, counting_turn, counting_done}
use native.Mathlib.Omega.{arith}
use Rattle.paths.proofs.count_buckets.Goals as goal

pub loop-label-init : goal.loop-label-init
loop-label-init c = counting_start c.requires.2

pub count_label-requires : goal.count_label-requires
count_label-requires c =
    let p = c.requires in
    let h = c.loop-label.invariant in
    let falls = p.1 c.loop-label.label h.low (omega arith) in
    (count_room _ _ h.counts (omega arith) falls, count_small _ _ h.counts (omega arith) falls p.0, h.low, omega (arith, p.3))

pub overflow_add-label-end : goal.overflow_add-label-end
overflow_add-label-end c =
    let p = c.requires in
    omega (arith, p.0)

pub loop-label-preserved : goal.loop-label-preserved
loop-label-preserved c =
    let p = c.requires in
    let h = c.loop-label.invariant in
    counting_turn h (omega arith) (p.1 c.loop-label.label h.low (omega arith)) c.count_label.auto.starts c.count_label.ensures

pub shape_of-starts : goal.shape_of-starts
shape_of-starts c = c.loop-label.invariant.size

pub returns : goal.returns
returns c = counting_done c.loop-label.invariant (omega arith)
