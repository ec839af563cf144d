use Rattle.paths.specs.Paths.{target_cell, later_bad}
use Rattle.paths.proofs.Passes.{Settling}
use Rattle.paths.proofs.settle_targets.Given as goal

abbrev pub invariant-loop-label : goal.invariant-loop-label
invariant-loop-label l = Settling (later_bad l.index.text.now l.initial.table l.index.n) (target_cell l.index.text.now l.initial.table l.index.n) l.index.n l.initial.table l.label l.table
