use native.Mathlib.Omega.{arith}
use mir.Facts.{to_z_pos}
use mir.Syntax.{w64}
use Rattle.lines.proofs.cell_of.Goals as goal

pub returns : goal.returns
returns c = to_z_pos w64 {n = c.args.x} (omega arith)
