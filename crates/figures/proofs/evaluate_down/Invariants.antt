use Rattle.figures.proofs.Loop.{Going}
use Rattle.figures.proofs.evaluate_down.Given as goal

abbrev pub invariant-loop-i : goal.invariant-loop-i
invariant-loop-i l = Going l.arithmetic l.table l.order l.initial.results l.results l.i
