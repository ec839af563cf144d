use Prim.Native.Nat.{◌+◌}
use Rattle.text.proofs.Scanned.{LettersLeft}
use Rattle.text.proofs.next_name.Given as goal

abbrev pub invariant-loop-size : goal.invariant-loop-size
invariant-loop-size l = LettersLeft l.text l.from (l.from + l.size)
