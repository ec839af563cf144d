use Rattle.lines.proofs.Pass.{Going}
use Rattle.lines.proofs.read_lines.Given as goal

abbrev pub invariant-loop-label : goal.invariant-loop-label
invariant-loop-label l = Going l.text l.n l.initial.table l.at l.label l.table
