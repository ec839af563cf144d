use mathlib.Core.Path.{◌∙◌, sym, ap}
use Prim.Native.Nat.{◌+◌, ◌-◌, ◌*◌}
use Rattle.cells.specs.Cells.{int_at, nat_of}
use Rattle.cells.proofs.Signed.{whole}
use Rattle.cells.proofs.Table.{cell_at}
use Rattle.cells.proofs.label_cell.Goals as goal

pub returns : goal.returns
returns c =
    c.nat_of.ensures
    ∙ ap nat_of (whole (int_at c.args.t.now (8 * (c.args.label - 1) + c.args.j)) c.nat_of-arg-1.given)
    ∙ sym (cell_at c.args.t.now c.args.label c.args.j c.requires.0)
