use mathlib.Core.Path.{sym, ◌∙◌}
use Rattle.needs.proofs.Lifts.{cut_skip, cut_turn}
use Rattle.needs.proofs.cut_diagonal.Goals as goal
use Rattle.needs.proofs.cut_diagonal.Goals.{else-has_mark, then-has_mark}

pub loop-p-preserved : goal.loop-p-preserved
loop-p-preserved c = elim c.if-has_mark.branch [
  | then-has_mark w ↦ rw w.square-is (cut_turn _ _ _ _ c.loop-p.invariant _ w.drop_mark.ensures)
  | else-has_mark w ↦ rw w.square-is (cut_skip _ _ _ _ c.loop-p.invariant (sym c.has_mark.ensures ∙ w.if-has_mark.false))
]
