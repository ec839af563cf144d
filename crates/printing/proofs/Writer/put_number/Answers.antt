use mir.Syntax.{w64}
use mir.Facts.{to_z-of_z}
use Rattle.printing.proofs.Writing.{puts_then}
use Rattle.printing.proofs.Writer.put_number.Goals as goal

pub returns : goal.returns
returns c = puts_then (rw (to_z-of_z {w = w64} c.ranges.x) at c.put_integer.ensures) c.put.ensures
