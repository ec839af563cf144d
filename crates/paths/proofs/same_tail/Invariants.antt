use Rattle.paths.proofs.SameName.{Comparing}
use Rattle.paths.proofs.same_tail.Given as goal

abbrev pub invariant-loop-i : goal.invariant-loop-i
invariant-loop-i l = Comparing l.text l.a l.b l.size l.i
