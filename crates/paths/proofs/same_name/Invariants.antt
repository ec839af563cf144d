use Prim.Native.Nat.{◌*◌}
use Rattle.paths.proofs.SameName.{Comparing}
use Rattle.paths.proofs.same_name.Given as goal

abbrev pub invariant-loop-word : goal.invariant-loop-word
invariant-loop-word l = Comparing l.text l.a l.b l.size (8 * l.word)
