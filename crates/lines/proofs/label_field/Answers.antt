use mathlib.Core.Path.{sym, ap}
use native.Mathlib.Omega.{arith}
use mir.Facts.{to_z_pos}
use mir.Syntax.{w64}
use Rattle.std.specs.Prelude.{Some}
use Rattle.text.proofs.Labels.{label_most}
use Rattle.lines.proofs.label_field.Goals as goal

pub overflow_cast-result : goal.overflow_cast-result
overflow_cast-result c = omega (arith, label_most c.args.n c.args.field.now c.in_ok-v.v (sym c.in_ok-v.ensures))

pub returns : goal.returns
returns c =
    rw (sym c.in_ok-v.ensures) (ap Some (to_z_pos w64 {n = c.in_ok-v.v} (omega (arith, label_most c.args.n c.args.field.now c.in_ok-v.v (sym c.in_ok-v.ensures)))))
