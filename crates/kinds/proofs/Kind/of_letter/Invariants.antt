use mathlib.Core.Path.{◌≡◌}
use Prim.Native.Nat.{◌+◌}
use lib.ListN.{drop}
use Rattle.kinds.specs.Kinds.{kinds, code_in, code_of}
use Rattle.kinds.proofs.Kind.of_letter.Given as goal

abbrev pub invariant-loop-i : goal.invariant-loop-i
invariant-loop-i l = code_in (drop l.i kinds) (l.i + 1) l.letter ≡ code_of l.letter
