use mathlib.Core.Path.{sym, ◌∙◌}
use native.Mathlib.Omega.{arith}
use Rattle.order.specs.LabelLists.{◌∈◌}
use Rattle.placing.proofs.Lists.{in_at}
use Rattle.blocks.proofs.Rows.{joined_skip, joined_turn}
use Rattle.blocks.proofs.join_rows.Goals as goal
use Rattle.blocks.proofs.join_rows.Goals.{After-from-x, else-b-x, then-b-x}

-- in a turn: the label at hand is an item
here : (c : After-from-x) → c.from-x.result ∈ c.args.items.now
here c = rw c.from-x.ensures (in_at c.args.items.now c.loop-x.x-index c.loop-x-test.true)

pub bounds-lead-x : goal.bounds-lead-x
bounds-lead-x c = c.requires.mergeable.leading _ (here (goal.at.bounds-lead-x c).After-from-x)

pub put_mark-requires : goal.put_mark-requires
put_mark-requires c = (c.requires.mergeable.below _ (here (goal.at.put_mark-requires c).After-from-x), omega (arith, c.requires.w_in_bounds.0))

pub merge_row-requires : goal.merge_row-requires
merge_row-requires c =
    let ok = c.requires.mergeable in
    let m = here (goal.at.merge_row-requires c).After-from-x in
    let k : c.from-b.result ∈ c.args.items.now = rw c.from-b.ensures (ok.item _ m) in
    (omega (arith, ok.rows _ m), omega (arith, ok.rows _ k))

pub loop-x-preserved : goal.loop-x-preserved
loop-x-preserved c =
    let h = c.loop-x-test.true in
    let ok = c.requires.mergeable in
    elim c.if-b-x.branch [
      | then-b-x w ↦ rw (w.square-is, w.followers-is)
          (joined_turn _ _ _ _ _ _ _ _ h c.from-x.ensures c.loop-x.invariant ok.head (λ e. w.if-b-x.true (c.from-b.ensures ∙ e)) (ok.below _ (here (goal.at.loop-x-preserved c).After-from-x)) _
          c.from-b.ensures _ _ w.put_mark.ensures w.merge_row.ensures)
      | else-b-x w ↦ rw (w.square-is, w.followers-is)
          (joined_skip _ _ _ _ _ _ _ _ h c.from-x.ensures c.loop-x.invariant (sym c.from-b.ensures ∙ w.if-b-x.false))
    ]
