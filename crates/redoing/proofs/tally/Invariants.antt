use Rattle.redoing.proofs.Sums.{Counting}
use Rattle.redoing.proofs.tally.Given as goal

abbrev pub invariant-loop-l : goal.invariant-loop-l
invariant-loop-l l = Counting l.results l.n l.failing l.steps l.l
