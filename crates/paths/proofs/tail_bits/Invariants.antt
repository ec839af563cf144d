use Rattle.paths.proofs.Hashes.{Gathering}
use Rattle.paths.proofs.tail_bits.Given as goal

abbrev pub invariant-loop-i : goal.invariant-loop-i
invariant-loop-i l = Gathering l.text l.from l.size l.i l.bits
