use Prim.Native.Nat.{◌%◌}
use native.Mathlib.Omega.{arith}
use Rattle.marks.proofs.Squares.{shift_one, drop_dropped}
use Rattle.marks.proofs.drop_mark.Goals as goal

pub returns : goal.returns
returns c = rw (shift_one (c.args.q % 64) (omega arith)) (drop_dropped _ _ _ _ c.requires.in_square c.requires.q_value)
