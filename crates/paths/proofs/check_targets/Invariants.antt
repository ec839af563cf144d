use Rattle.paths.specs.TargetCells.{wrong_target}
use Rattle.paths.proofs.Passes.{Pass}
use Rattle.paths.proofs.check_targets.Given as goal

abbrev pub invariant-loop-label : goal.invariant-loop-label
invariant-loop-label l = Pass (wrong_target l.table) l.n l.label
