use mathlib.Core.Path.{sym, ◌∙◌}
use native.Mathlib.Omega.{arith}
use Rattle.order.specs.LabelLists.{◌∈◌}
use Rattle.placing.proofs.Lists.{in_at, rising_once}
use Rattle.blocks.proofs.Rows.{closed_skip, closed_turn}
use Rattle.blocks.proofs.close_rows.Goals as goal
use Rattle.blocks.proofs.close_rows.Goals.{After-from-x, else-b-x, then-b-x}

-- in a turn: the label at hand is an item
here : (c : After-from-x) → c.from-x.result ∈ c.args.items.now
here c = rw c.from-x.ensures (in_at c.args.items.now c.loop-x.x-index c.loop-x-test.true)

pub bounds-lead-x : goal.bounds-lead-x
bounds-lead-x c = c.requires.mergeable.leading _ (here (goal.at.bounds-lead-x c).After-from-x)

pub close_row-requires-clause-in_square : goal.close_row-requires-clause-in_square
close_row-requires-clause-in_square c =
    let m = here (goal.at.close_row-requires-clause-in_square c).After-from-x in
    let pre = c.requires in
    ((pre.mergeable.below _ m, omega (arith, pre.mergeable.rows _ m)), pre.mergeable.narrow, pre.following.1, omega (arith, pre.following.2))

pub loop-x-preserved : goal.loop-x-preserved
loop-x-preserved c =
    let h = c.loop-x-test.true in
    let ok = c.requires.mergeable in
    elim c.if-b-x.branch [
      | then-b-x w ↦ rw w.square-is
          (closed_turn _ _ _ _ _ _ _ _ h c.from-x.ensures c.loop-x.invariant (rising_once c.args.items.now ok.rising _) (sym c.from-b.ensures ∙ w.if-b-x.true) _ w.close_row.ensures)
      | else-b-x w ↦ rw w.square-is (closed_skip _ _ _ _ _ _ _ _ h c.from-x.ensures c.loop-x.invariant (λ e. w.if-b-x.false (c.from-b.ensures ∙ e)))
    ]
