use native.Mathlib.Omega.{arith}
use Rattle.order.specs.LabelLists.{◌∈◌}
use Rattle.placing.proofs.Lists.{in_at}
use Rattle.placing.proofs.Counts.{ready_put, ready_skip}
use Rattle.placing.proofs.mark_ready.Goals as goal
use Rattle.placing.proofs.mark_ready.Goals.{After-from-p, then-unmet-p-eq0, else-unmet-p-eq0}

here : (c : After-from-p) → c.from-p.result ∈ c.args.items.now
here c = rw c.from-p.ensures (in_at c.args.items.now c.loop-x.x-index c.loop-x-test.true)

pub bounds-unmet-p : goal.bounds-unmet-p
bounds-unmet-p c = c.requires.all_below.0 _ (here (goal.at.bounds-unmet-p c).After-from-p)

pub put_mark-requires : goal.put_mark-requires
put_mark-requires c = (c.requires.all_below.1 _ (here (goal.at.put_mark-requires c).After-from-p), omega (arith, c.requires.all_below.2))

pub loop-x-preserved : goal.loop-x-preserved
loop-x-preserved c =
    let h = c.loop-x-test.true in
    let items = c.args.items.now in
    let unmet = c.args.unmet.now in
    elim c.if-unmet-p-eq0.branch [
      | then-unmet-p-eq0 w ↦ rw w.ready-is
          (ready_put items unmet c.loop-x.ready c.loop-x.x-index c.args.w _ c.from-p.ensures h c.loop-x.invariant
          (c.requires.all_below.1 _ (here (goal.at.loop-x-preserved c).After-from-p)) w.if-unmet-p-eq0.true _ w.put_mark.ensures)
      | else-unmet-p-eq0 w ↦ rw w.ready-is
          (ready_skip items unmet c.loop-x.ready c.loop-x.x-index c.args.w _ c.from-p.ensures h c.loop-x.invariant w.if-unmet-p-eq0.false)
    ]
