use Rattle.paths.proofs.Allotting.{Counting}
use Rattle.paths.proofs.count_buckets.Given as goal

abbrev pub invariant-loop-label : goal.invariant-loop-label
invariant-loop-label l = Counting l.table l.n l.initial.starts l.starts l.label
