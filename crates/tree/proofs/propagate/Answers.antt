-- A definition and an expression, each a clause of `propagated`.
use mathlib.Core.Path.{◌≡◌, ◌∙◌, sym, ap}
use native.Mathlib.Omega.{arith}
use lib.ListN.{length}
use Rattle.kinds.specs.Kinds as kinds
use Rattle.tree.specs.TreeSteps.{node_at}
use Rattle.tree.proofs.Labels.{node_definition, propagated_definition, propagated_expression}
use Rattle.tree.proofs.Parts.{Alike}
use Rattle.tree.proofs.Writes.{assigned_length, assigned_alike, alike_node, inside_kept}
use Rattle.tree.proofs.Going.{once_out}
use Rattle.tree.proofs.propagate.Goals as goal
use Rattle.tree.proofs.propagate.Goals.{After-is_definition, After-assign}

module _ (c : After-is_definition) where
  definition : (node_at c.args.table.now c.args.label).definition ≡ c.is_definition.result
  definition = node_definition c.args.table.now c.args.label ∙ ap kinds.is_definition (sym c.requires.1.2) ∙ sym c.is_definition.ensures

-- the line itself is the same when its own owner and level are written
module _ (c : After-assign) where
  same : Alike c.args.table.now c.assign.new.table
  same = rw c.assign.ensures (assigned_alike c.args.label c.label_cell-group.result 0 c.args.table.now)

  size : length c.assign.new.table ≡ length c.args.table.now
  size = rw c.assign.ensures (assigned_length c.args.label c.label_cell-group.result 0 c.args.table.now)

  here : node_at c.assign.new.table c.args.label ≡ node_at c.args.table.now c.args.label
  here = alike_node c.args.table.now c.assign.new.table same c.args.label

pub assign-requires : goal.assign-requires
assign-requires c =
    let d = definition (goal.at.assign-requires c).After-is_definition ∙ c.if-is_definition.true in
    (c.requires.0.line.cells, omega (arith, c.requires.0.group d), omega arith)

pub claim_parts-requires : goal.claim_parts-requires
claim_parts-requires c =
    let s = (goal.at.claim_parts-requires c).After-assign in
    let has = c.requires.0.line.cells in (
      (has.0, omega (arith, has.1, size s), c.requires.1.2 ∙ sym (same s c.args.label 0 (omega arith))),
      rw (here s) (inside_kept c.args.table.now c.assign.new.table (size s) (node_at c.args.table.now c.args.label) c.requires.0.inside),
      c.requires.0.few,
      omega arith,
    )

pub returns-then-is_definition-clause-value : goal.returns-then-is_definition-clause-value
returns-then-is_definition-clause-value c = sym (rw (definition (goal.at.returns-then-is_definition-clause-value c).After-is_definition ∙ c.if-is_definition.true))

pub returns-then-is_definition-clause-table_after : goal.returns-then-is_definition-clause-table_after
returns-then-is_definition-clause-table_after c =
    let s = goal.at.returns-then-is_definition-clause-table_after c in
    let d = definition s.After-is_definition ∙ c.if-is_definition.true in
    rw (c.claim_parts.ensures, here s.After-assign, c.assign.ensures, c.label_cell-group.ensures) (sym (propagated_definition c.args.label c.args.table.now d))

pub overflow_add-level : goal.overflow_add-level
overflow_add-level c =
    let d = definition (goal.at.overflow_add-level c).After-is_definition ∙ c.if-is_definition.false in
    omega (arith, c.requires.0.level d)

pub claim_parts-requires-then-used_once : goal.claim_parts-requires-then-used_once
claim_parts-requires-then-used_once c =
    let d = definition (goal.at.claim_parts-requires-then-used_once c).After-is_definition ∙ c.if-is_definition.false in
    (c.requires.1, c.requires.0.inside, (once_out c.label_cell-owner.result (sym c.used_once.ensures ∙ c.if-used_once.true)).1, omega (arith, c.requires.0.level d))

pub returns-then-used_once-clause-table_after : goal.returns-then-used_once-clause-table_after
returns-then-used_once-clause-table_after c =
    let d = definition (goal.at.returns-then-used_once-clause-table_after c).After-is_definition ∙ c.if-is_definition.false in
    rw (c.claim_parts-then-used_once.ensures, c.label_cell-owner.ensures, c.label_cell-level.ensures) (sym (propagated_expression c.args.label c.args.table.now d))

pub returns-clause-value : goal.returns-clause-value
returns-clause-value c =
    let d = definition (goal.at.returns-clause-value c).After-is_definition ∙ c.if-is_definition.false in
    rw (d, ← c.label_cell-owner.ensures, ← c.used_once.ensures, c.if-used_once.false)
