use native.Mathlib.Omega.{arith}
use Rattle.marks.proofs.Squares.{merging_none, merging_turn, merging_end}
use Rattle.marks.proofs.merge_row.Goals as goal

pub loop-j-init : goal.loop-j-init
loop-j-init c = merging_none _ _ _ _

pub loop-j-preserved : goal.loop-j-preserved
loop-j-preserved c = merging_turn _ _ _ _ _ _ c.loop-j.invariant (omega arith) (omega arith)

pub returns : goal.returns
returns c = merging_end _ _ _ _ _ _ c.loop-j.invariant (omega arith) (omega arith)
