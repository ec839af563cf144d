use Rattle.reach.proofs.Raise.{Climb}
use Rattle.reach.proofs.mark_groups.Given as goal

abbrev pub invariant-loop-g : goal.invariant-loop-g
invariant-loop-g l = Climb l.sheet.cells.now l.sheet.n l.initial.square l.square l.w l.d l.v l.g

abbrev pub decreases-loop-g : goal.decreases-loop-g
decreases-loop-g l = l.g
