use mathlib.Core.Path.{sym, ◌∙◌}
use native.Mathlib.Omega.{arith}
use Rattle.reach.proofs.Raise.{climb_start, climb_turn, climb_end, climb_found}
use Rattle.reach.proofs.mark_groups.Goals as goal

pub loop-g-init : goal.loop-g-init
loop-g-init c =
    let pre = c.requires in
    rw c.cell-g.ensures (climb_start _ _ c.args.sheet.accepted _ _ _ _ pre.d_le_n.1 pre.d_le_n.2 pre.v_value pre.raised)

pub returns-then-has_mark : goal.returns-then-has_mark
returns-then-has_mark c = climb_found _ _ c.args.sheet.accepted _ _ _ _ _ _ c.loop-g.invariant c.loop-g-test.true (sym c.has_mark.ensures ∙ c.if-has_mark.true)

pub loop-g-preserved : goal.loop-g-preserved
loop-g-preserved c = rw c.cell-g-in-loop-g.ensures (climb_turn _ _ c.args.sheet.accepted _ _ _ _ _ _ c.loop-g.invariant c.loop-g-test.true (omega (arith, c.loop-g.invariant.low)) _ c.put_mark.ensures)

pub returns : goal.returns
returns c = climb_end _ _ c.args.sheet.accepted _ _ _ _ _ _ c.loop-g.invariant c.loop-g-test.false
