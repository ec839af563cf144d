-- the name field lies in the text
use mathlib.Core.Path.{◌≡◌, ◌∙◌, sym, ap}
use Prim.Native.Nat.{◌+◌, ◌≤◌}
use lib.ListN.{length}
use Rattle.cells.specs.Table.{name_start, name_length}
use Rattle.paths.specs.Buckets.{some_label}
use Rattle.paths.proofs.Resolving.{target_is}
use native.Mathlib.Omega.{arith}
use Rattle.paths.proofs.Directory.target_at.Goals as goal
use Rattle.paths.proofs.Directory.target_at.Goals.{After-label_cell}

inside : (c : After-label_cell) → c.label_cell-from.result + c.label_cell.result ≤ length c.args.self.now.index.text.now
inside c =
    omega (arith, c.label_cell-from.ensures, c.label_cell.ensures, c.args.self.now.rows.names c.args.label)

pub returns-then-not-has_path : goal.returns-then-not-has_path
returns-then-not-has_path c = rw (sym c.has_path.ensures ∙ c.if-not-has_path.true)

pub overflow_add-end : goal.overflow_add-end
overflow_add-end c = omega (arith, inside (goal.at.overflow_add-end c).After-label_cell)

pub descend-requires : goal.descend-requires
descend-requires c = (c.requires.2, omega arith, inside (goal.at.descend-requires c).After-label_cell)

pub returns : goal.returns
returns c =
    let a = c.args in
    let d = a.self.now in
    let t = d.table.now in
    let from = c.label_cell-from.result in
    let to = from + c.label_cell.result in
    let end : to ≡ name_start t a.label + name_length t a.label = omega (arith, c.label_cell-from.ensures, c.label_cell.ensures) in
    let path = sym c.has_path.ensures ∙ c.if-not-has_path.false in
    c.descend.ensures ∙ ap some_label (target_is d.index.text.now t d.index.n a.label from to c.label_cell-from.ensures end (inside (goal.at.returns c).After-label_cell) a.head path)
