use Rattle.needs.specs.Needs.{Cut}
use Rattle.needs.proofs.cut_diagonal.Given as goal

abbrev pub invariant-loop-p : goal.invariant-loop-p
invariant-loop-p l = Cut l.n l.p l.initial.square l.square
