use mathlib.Core.Path.{◌≡◌}
use Prim.Native.Nat.{◌≤◌}
use lib.ListN.{drop}
use Rattle.numbers.specs.Decimal.{digits_of}
use Rattle.numbers.proofs.digits.Given as goal

abbrev pub invariant-loop-b : goal.invariant-loop-b
invariant-loop-b l = (l.v ≤ l.max) × (digits_of l.max 0 l.field ≡ digits_of l.max l.v (drop l.b-index l.field))
