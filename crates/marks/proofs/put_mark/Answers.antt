use Prim.Native.Nat.{◌%◌}
use native.Mathlib.Omega.{arith}
use Rattle.marks.proofs.Squares.{shift_one, put_added}
use Rattle.marks.proofs.put_mark.Goals as goal

pub returns : goal.returns
returns c = rw (shift_one (c.args.q % 64) (omega arith)) (put_added _ _ _ _ c.requires)
