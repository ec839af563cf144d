use mathlib.Core.Path.{◌∙◌, ap}
use Rattle.cells.specs.Cells.{nat_of}
use Rattle.cells.proofs.Signed.{whole}
use Rattle.cells.proofs.nat_at.Goals as goal

pub returns : goal.returns
returns c = c.nat_of.ensures ∙ ap nat_of (whole c.int_at.result c.int_at.type_inv ∙ c.int_at.ensures)
