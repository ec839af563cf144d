-- the name field lies in the text
use mathlib.Core.Path.{◌≡◌, ◌∙◌, sym, ap}
use Prim.Native.Nat.{◌+◌, ◌≤◌}
use lib.ListN.{length}
use Rattle.cells.specs.Table.{name_start, name_length, owner}
use Rattle.paths.specs.Buckets.{some_label}
use Rattle.paths.proofs.Resolving.{stop_low, stop_high, head_is, owner_small}
use native.Mathlib.Omega.{arith}
use Rattle.paths.proofs.Directory.head_at.Goals as goal
use Rattle.paths.proofs.Directory.head_at.Goals.{After-label_cell}

inside : (c : After-label_cell) → c.label_cell-from.result + c.label_cell.result ≤ length c.args.self.now.index.text.now
inside c =
    omega (arith, c.label_cell-from.ensures, c.label_cell.ensures, c.args.self.now.rows.names c.args.label)

pub returns-then-not-has_path : goal.returns-then-not-has_path
returns-then-not-has_path c = rw (sym c.has_path.ensures ∙ c.if-not-has_path.true)

pub overflow_add-end : goal.overflow_add-end
overflow_add-end c = omega (arith, inside (goal.at.overflow_add-end c).After-label_cell)

pub name_stop-requires : goal.name_stop-requires
name_stop-requires c = (omega arith, inside (goal.at.name_stop-requires c).After-label_cell)

-- the Group around the owner is a label
pub search-requires : goal.search-requires
search-requires c =
    let d = c.args.self.now in
    let s = d.index.text.now in
    let from = c.label_cell-from.result in
    let to = from + c.label_cell.result in
    let i = inside (goal.at.search-requires c).After-label_cell in
    let stop = c.name_stop.ensures in
    let f = d.rows.falls c.args.label (omega arith) (omega arith) in
    let small = owner_small d.table.now d.index.n d.rows.falls c.label_cell-owner.result (omega (arith, c.label_cell-owner.ensures)) in
    (omega (arith, c.cell_at-group.ensures, c.label_cell-owner.ensures), omega (arith, stop, stop_low s from to (omega arith) i), omega (arith, stop, stop_high s from to (omega arith) i))

pub returns : goal.returns
returns c =
    let a = c.args in
    let d = a.self.now in
    let s = d.index.text.now in
    let t = d.table.now in
    let from = c.label_cell-from.result in
    let to = from + c.label_cell.result in
    let end : to ≡ name_start t a.label + name_length t a.label = omega (arith, c.label_cell-from.ensures, c.label_cell.ensures) in
    let g : c.cell_at-group.result ≡ owner t (owner t a.label) = c.cell_at-group.ensures ∙ ap (owner t) c.label_cell-owner.ensures in
    let path = sym c.has_path.ensures ∙ c.if-not-has_path.false in
    let head = head_is s t d.index.n a.label from to c.label_cell-from.ensures end (inside (goal.at.returns c).After-label_cell) path in
    c.search.ensures ∙ rw (g, c.name_stop.ensures) (ap some_label head)
