use Rattle.paths.specs.Paths.{path_head_bad}
use Rattle.paths.specs.TargetCells.{head_cell}
use Rattle.paths.proofs.Passes.{Settling}
use Rattle.paths.proofs.settle_heads.Given as goal

abbrev pub invariant-loop-label : goal.invariant-loop-label
invariant-loop-label l = Settling (path_head_bad l.index.text.now l.initial.table l.index.n) (head_cell l.index.text.now l.initial.table l.index.n) l.index.n l.initial.table l.label l.table
