use Rattle.cells.proofs.Accepted.{body_label}
use Rattle.figures.proofs.Working.{value_label}
use Rattle.redoing.proofs.Redone.{row_redone}
use Rattle.redoing.proofs.Down.{turn_value, turn_ready, going_turn}
use Rattle.redoing.proofs.Retoucher.redo_down.Goals as goal

pub redo_dependent-change-requires-clause-evaluable : goal.redo_dependent-change-requires-clause-evaluable
redo_dependent-change-requires-clause-evaluable c =
    let inv = c.loop-i.invariant in
    let asked = inv.asked in
    let at = c.nat_at-v.ensures in
    let v = value_label _ _ asked.accepted _ (turn_value _ _ _ _ _ _ _ _ inv c.loop-i-test.true at) in
    let d = body_label _ _ asked.accepted _ asked.body in
    (turn_ready _ _ _ _ _ _ _ _ inv c.loop-i-test.true at, v.1, d.1)

pub loop-i-preserved : goal.loop-i-preserved
loop-i-preserved c =
    let inv = c.loop-i.invariant in
    let asked = inv.asked in
    let at = c.nat_at-v.ensures in
    let v = turn_value _ _ _ _ _ _ _ _ inv c.loop-i-test.true at in
    going_turn _ _ _ _ _ _ _ _ inv c.loop-i-test.true at (row_redone _ _ asked.accepted _ _ asked.row _ v) c.redo_dependent-change.ensures
