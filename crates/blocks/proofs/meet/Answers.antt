use mathlib.Core.Path.{◌≡◌, ap}
use mathlib.Core.Bool.{◌&&◌, true}
use native.Mathlib.Omega.{arith}
use lib.ListN.{get_or}
use Rattle.order.specs.LabelLists.{count}
use Rattle.order.proofs.Tests.{and_right, one_in}
use Rattle.order.proofs.Lists.{in_here}
use Rattle.marks.specs.Marks.{mark}
use Rattle.marks.specs.Walk.{marks_left}
use Rattle.marks.proofs.Squares.{mark_in}
use Rattle.blocks.proofs.Parts.{LowerOf, meet_turn, min_lower}
use Rattle.blocks.proofs.meet.Goals as goal
use Rattle.blocks.proofs.meet.Goals.{In-Some}

-- the mark at hand is of one on the stack
stacked : (c : In-Some) → mark c.args.stacked.now c.args.w 0 c.in-Some.x ≡ true
stacked c =
    let own = mark c.args.square.now c.args.w c.args.q c.in-Some.x in
    let on = mark c.args.stacked.now c.args.w 0 c.in-Some.x in
    and_right own on (one_in (own && on) (omega (arith, c.loop-x.invariant.2 c.in-Some.x, ap (count c.in-Some.x) c.in-Some.ensures.steps, in_here c.in-Some.x (marks_left c.next.new.self))))

pub offset_bounds-place-x : goal.offset_bounds-place-x
offset_bounds-place-x c = omega (arith, mark_in c.args.stacked.now c.args.w 0 c.in-Some.x (stacked (goal.at.offset_bounds-place-x c).In-Some), c.requires.w_in_bounds)

pub bounds-place-x : goal.bounds-place-x
bounds-place-x c = c.requires.by_index c.in-Some.x (stacked (goal.at.bounds-place-x c).In-Some)

pub loop-x-preserved : goal.loop-x-preserved
loop-x-preserved c =
    let inv = c.loop-x.invariant in
    let x = c.in-Some.x in
    let lower : LowerOf c.loop-x.low (get_or c.args.place.now x 0) c.min-low.result = rw (c.min-low.ensures, c.from.ensures) (min_lower c.loop-x.low (get_or c.args.place.now x 0)) in
    let turn = meet_turn c.args.square.now c.args.stacked.now c.args.place.now _ _ c.args.w c.args.q c.args.n c.loop-x.low x c.min-low.result c.in-Some.ensures.steps inv.2 inv.3 inv.4 lower in
    (tt, tt, λ y. omega (arith, inv.2 y, ap (count y) c.in-Some.ensures.steps), turn.0, turn.1)
