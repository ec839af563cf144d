use mathlib.Core.Path.{◌≡◌, ◌∙◌}
use Prim.Native.Nat.{◌≤◌}
use borrow.Author.Rules.{rules}
use Rattle.std.specs.Prelude.{Err}
use Rattle.refusals.specs.Rows.{later_row}
use Rattle.paths.specs.Paths.{target_cell, later_bad}
use Rattle.paths.specs.TargetCells.{head_cell, target_by}
use Rattle.paths.proofs.SomeLabel.{or_found}
use Rattle.paths.proofs.Alike.{rows_alike, linked_alike}
use Rattle.paths.proofs.Passes.{settle_start, settle_size, settle_alike, settle_later, settle_all, settle_kept}
use Rattle.paths.proofs.Passes.{settle_turn, settle_stop, pass_done, later_rule, head_cell_high, target_by_high, target_now}
use native.Mathlib.Omega.{arith}
use Rattle.paths.proofs.settle_targets.Goals as goal
use Rattle.paths.proofs.settle_targets.Goals.{After-label_cell-head}

-- the head stands in the label's cell
head : (c : After-label_cell-head) → let a = c.args in c.label_cell-head.result ≡ head_cell a.index.text.now a.table.now a.index.n c.loop-label.label
head c =
    let g = c.loop-label.invariant in
    c.label_cell-head.ensures ∙ settle_later g ∙ c.requires.by_index c.loop-label.label g.pass.low (omega arith)

head_high : (c : After-label_cell-head) → c.label_cell-head.result ≤ c.args.index.n
head_high c =
    let a = c.args in
    omega (arith, head c, head_cell_high a.index.text.now a.table.now a.index.n c.loop-label.label)

-- what it leads to is the target
same : (c : After-label_cell-head) → let a = c.args in target_by a.index.text.now c.loop-label.table a.index.n c.loop-label.label c.label_cell-head.result
    ≡ target_cell a.index.text.now a.table.now a.index.n c.loop-label.label
same c =
    let a = c.args in
    target_now a.index.text.now a.table.now a.index.n c.loop-label.label c.loop-label.table (settle_alike c.loop-label.invariant) (head c)

pub overflow_add-label-end : goal.overflow_add-label-end
overflow_add-label-end c = omega (arith, c.requires.searchable.0.few)

pub loop-label-init : goal.loop-label-init
loop-label-init c =
    let a = c.args in
    settle_start (later_bad a.index.text.now a.table.now a.index.n) (target_cell a.index.text.now a.table.now a.index.n) a.index.n a.table.now

pub label_cell-head-requires : goal.label_cell-head-requires
label_cell-head-requires c =
    let g = c.loop-label.invariant in
    (g.pass.low, omega (arith, settle_size g, c.requires.searchable.0.room), omega arith)

pub invariant_of-target_at : goal.invariant_of-target_at
invariant_of-target_at c =
    let a = c.args in
    let g = c.loop-label.invariant in
    let al = settle_alike g in record {
      rows = rows_alike a.index.text.now a.table.now c.loop-label.table al a.index.n (settle_size g) c.requires.searchable.0;
      all = linked_alike a.index.text.now a.table.now c.loop-label.table al c.requires.searchable.1;
    }

pub target_at-end-requires : goal.target_at-end-requires
target_at-end-requires c = (c.loop-label.invariant.pass.low, omega arith, head_high (goal.at.target_at-end-requires c).After-label_cell-head)

pub settle-requires : goal.settle-requires
settle-requires c =
    let a = c.args in
    let r = c.requires.searchable.0 in
    let high = target_by_high a.index.text.now c.loop-label.table a.index.n c.loop-label.label c.label_cell-head.result (head_high (goal.at.settle-requires c).After-label_cell-head) in
    (c.loop-label.invariant.pass.low, omega (arith, settle_size c.loop-label.invariant, r.room), omega (arith, or_found c.target_at-end.ensures, r.few))

pub shape_of-table-in_err-settle : goal.shape_of-table-in_err-settle
shape_of-table-in_err-settle c =
    settle_kept c.loop-label.invariant (same (goal.at.shape_of-table-in_err-settle c).After-label_cell-head) c.target_at-end.ensures c.settle.ensures.table_after

pub returns-in_err-settle-clause-value : goal.returns-in_err-settle-clause-value
returns-in_err-settle-clause-value c =
    let a = c.args in
    let told : c.from_residual.result ≡ Err c.in_err-settle.field-0.0 = search rules in
    let h = c.settle.ensures in
    let rule = later_rule a.index.text.now a.table.now a.index.n in
    let found = same (goal.at.returns-in_err-settle-clause-value c).After-label_cell-head in
    let stop = settle_stop c.loop-label.invariant found c.target_at-end.ensures h.table_after later_row rule h.value (omega arith) in
    told ∙ stop c.in_err-settle.was

pub loop-label-preserved : goal.loop-label-preserved
loop-label-preserved c =
    let a = c.args in
    let h = c.settle.ensures in
    let rule = later_rule a.index.text.now a.table.now a.index.n in
    let found = same (goal.at.loop-label-preserved c).After-label_cell-head in
    settle_turn c.loop-label.invariant found c.target_at-end.ensures h.table_after later_row rule h.value (omega arith) c.in_ok-settle.was

pub shape_of-table : goal.shape_of-table
shape_of-table c = settle_size c.loop-label.invariant

pub returns : goal.returns
returns c =
    let g = c.loop-label.invariant in record {
      value = pass_done g.pass (omega arith);
      table_after = λ z. settle_all g (omega arith);
    }
