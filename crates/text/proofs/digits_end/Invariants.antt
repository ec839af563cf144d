use Prim.Native.Nat.{◌+◌}
use Rattle.text.proofs.Scanned.{DigitsLeft}
use Rattle.text.proofs.digits_end.Given as goal

abbrev pub invariant-loop-size : goal.invariant-loop-size
invariant-loop-size l = DigitsLeft l.max l.text l.from (l.from + l.size) l.value
