use mir.Syntax.{w64}
use mathlib.Core.Bool.{true}
use mir.Facts.{to_z-of_z}
use Rattle.cells.proofs.Signed.{test_negative}
use Rattle.printing.proofs.Sizes.{integer_negative}
use Rattle.printing.proofs.Writing.{puts_then}
use Rattle.printing.proofs.Writer.put_integer.Goals as goal

pub returns-then-x-lt0 : goal.returns-then-x-lt0
returns-then-x-lt0 c =
    let e = test_negative c.args.x true c.ranges.x c.if-x-lt0.true in
    let size = rw (to_z-of_z {w = w64} c.ranges.x) at c.unsigned_abs.ensures.value in
    rw (integer_negative c.args.x e, ← size) (puts_then c.put.ensures c.put_decimal.ensures)
