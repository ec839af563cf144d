use native.Mathlib.Omega.{arith}
use mir.Facts.{to_z_pos}
use mir.Syntax.{w64}
use Rattle.cells.proofs.put_nat.Goals as goal

pub returns : goal.returns
returns c = rw (to_z_pos w64 {n = c.args.v} (omega arith))
