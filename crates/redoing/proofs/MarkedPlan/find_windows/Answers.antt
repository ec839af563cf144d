use native.Mathlib.Omega.{arith}
use Rattle.cells.proofs.Accepted.{body_label}
use Rattle.redoing.proofs.Owners.{pair_line, pair_owner}
use Rattle.redoing.proofs.MarkedPlan.find_windows.Goals as goal

pub cell-d-requires : goal.cell-d-requires
cell-d-requires c =
    let l = pair_line _ _ _ c.args.sheet.accepted c.requires.right _ c.loop-k-test.true c.label_of-label.ensures in
    (l.0, l.1, omega arith, omega arith)

pub find_window-requires-clause-owner : goal.find_window-requires-clause-owner
find_window-requires-clause-owner c =
    let pre = c.requires in
    let ok = c.args.sheet.accepted in
    let d = body_label _ _ ok _ (pair_owner _ _ _ ok pre.right _ c.loop-k-test.true c.label_of-label.ensures c.cell-d.ensures) in
    (omega (arith, d.1, pre.own), omega (arith, pre.own, pre.blank.0, c.loop-k.invariant.long))
