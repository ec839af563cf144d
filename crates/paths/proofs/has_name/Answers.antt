-- The size, then the bytes.
use mathlib.Core.Path.{◌∙◌}
use Rattle.paths.proofs.Members.{name_differs, name_compared}
use Rattle.paths.proofs.has_name.Goals as goal

pub returns-then-size-to : goal.returns-then-size-to
returns-then-size-to c =
    let a = c.args in
    let p = c.requires in
    name_differs a.text.now a.table.now a.m a.from a.to p.1 p.2 (λ e. c.if-size-to.true (c.label_cell-size.ensures ∙ e))

pub returns : goal.returns
returns c =
    let a = c.args in
    let p = c.requires in
    name_compared a.text.now a.table.now a.m a.from a.to p.1 p.0
    c.label_cell.ensures c.label_cell-size.ensures c.if-size-to.false c.same_name.ensures
