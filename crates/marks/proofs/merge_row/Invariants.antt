use Rattle.marks.proofs.Squares.{Merging}
use Rattle.marks.proofs.merge_row.Given as goal

abbrev pub invariant-loop-j : goal.invariant-loop-j
invariant-loop-j l = Merging l.initial.s l.s l.w l.from l.into l.j
