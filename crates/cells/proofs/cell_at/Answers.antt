use mathlib.Core.Path.{◌∙◌, sym}
use native.Mathlib.Omega.{arith}
use Rattle.cells.proofs.Table.{cell_at, cell_past}
use Rattle.cells.proofs.cell_at.Goals as goal

pub returns-then-t-label : goal.returns-then-t-label
returns-then-t-label c = sym (cell_past c.args.t.now c.args.label c.args.j (omega arith))

pub returns : goal.returns
returns c = c.nat_at.ensures ∙ sym (cell_at c.args.t.now c.args.label c.args.j (omega arith))
