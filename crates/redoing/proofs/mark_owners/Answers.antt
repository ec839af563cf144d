use native.Mathlib.Omega.{arith}
use Rattle.redoing.proofs.Owners.{pair_line, pair_owner, marking_done}
use Rattle.redoing.proofs.mark_owners.Goals as goal

pub cell-d-requires : goal.cell-d-requires
cell-d-requires c =
    let l = pair_line _ _ _ c.args.chains.now.sheet.accepted c.requires.right _ c.loop-k-test.true c.label_of-label.ensures in
    (l.0, l.1, omega arith, omega arith)

pub visit-requires-clause-mark_rows : goal.visit-requires-clause-mark_rows
visit-requires-clause-mark_rows c = (
  c.loop-k.invariant.going.rows,
  pair_owner _ _ _ c.args.chains.now.sheet.accepted c.requires.right _ c.loop-k-test.true c.label_of-label.ensures c.cell-d.ensures,
)

pub returns : goal.returns
returns c =
    marking_done _ _ _ c.args.chains.now.sheet.accepted c.requires.right _ _ _ c.requires.new c.loop-k.invariant c.requires.column
    c.loop-k-test.false
