use mir.Syntax.{w64}
use mathlib.Core.Path.{sym, ◌∙◌}
use mir.Facts.{to_z-of_z}
use Rattle.numbers.proofs.Operations.{in_number, out_of_range_lem}
use Rattle.numbers.proofs.ranged.Goals as goal

pub returns-then-in_range : goal.returns-then-in_range
returns-then-in_range c = rw (to_z-of_z {w = w64} c.ranges.x) (in_number c.args.x (sym (rw (to_z-of_z {w = w64} c.ranges.x) at c.in_range.ensures) ∙ c.if-in_range.true))

pub returns-else-in_range : goal.returns-else-in_range
returns-else-in_range c = out_of_range_lem c.args.x (sym (rw (to_z-of_z {w = w64} c.ranges.x) at c.in_range.ensures) ∙ c.if-in_range.false)
