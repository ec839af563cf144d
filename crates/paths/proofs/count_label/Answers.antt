use mathlib.Core.Path.{◌∙◌, sym, ap}
use Prim.Native.Nat.{◌+◌, ◌≤◌}
use lib.ListN.{get_or, set}
use native.Mathlib.Omega.{arith}
use Rattle.paths.proofs.count_label.Goals as goal

pub overflow_add-starts : goal.overflow_add-starts
overflow_add-starts c =
    let p = c.requires in
    omega (arith, c.label_cell-group.ensures, p.0)

pub offset_bounds-starts-group : goal.offset_bounds-starts-group
offset_bounds-starts-group c =
    let p = c.requires in
    omega (arith, c.label_cell-group.ensures, p.0)

pub bounds-starts-group : goal.bounds-starts-group
bounds-starts-group c =
    let p = c.requires in
    omega (arith, c.label_cell-group.ensures, p.0)

pub overflow_add-starts-then-is_definition : goal.overflow_add-starts-then-is_definition
overflow_add-starts-then-is_definition c =
    let a = c.args in
    let p = c.requires in
    let small : get_or a.starts.now (c.label_cell-group.result + 1) 0 ≤ 4096 = rw c.label_cell-group.ensures p.1 in
    omega arith

pub bounds-starts-group-then-is_definition : goal.bounds-starts-group-then-is_definition
bounds-starts-group-then-is_definition c =
    let p = c.requires in
    omega (arith, c.label_cell-group.ensures, p.0)

pub returns-then-is_definition : goal.returns-then-is_definition
returns-then-is_definition c =
    let a = c.args in
    let c₀ = a.starts.now in
    rw (sym c.is_definition.ensures ∙ c.if-is_definition.true) (ap (λ g. set c₀ (g + 1) (get_or c₀ (g + 1) 0 + 2)) c.label_cell-group.ensures)

pub returns-else-is_definition : goal.returns-else-is_definition
returns-else-is_definition c = rw (sym c.is_definition.ensures ∙ c.if-is_definition.false)
