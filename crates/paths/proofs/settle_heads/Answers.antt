use mathlib.Core.Path.{◌≡◌, ◌∙◌}
use borrow.Author.Rules.{rules}
use Rattle.std.specs.Prelude.{Err}
use Rattle.refusals.specs.Rows.{head_row}
use Rattle.paths.specs.Paths.{path_head_bad}
use Rattle.paths.specs.TargetCells.{head_cell}
use Rattle.paths.proofs.SomeLabel.{or_found}
use Rattle.paths.proofs.Alike.{head_cell_alike, rows_alike, linked_alike}
use Rattle.paths.proofs.Passes.{settle_start, settle_size, settle_alike, settle_all, settle_kept}
use Rattle.paths.proofs.Passes.{settle_turn, settle_stop, pass_done, head_rule, head_cell_high}
use native.Mathlib.Omega.{arith}
use Rattle.paths.proofs.settle_heads.Goals as goal
use Rattle.paths.proofs.settle_heads.Goals.{At-loop-label}

-- what is settled in the table so far is what is settled in the first
same : (c : At-loop-label) → let a = c.args in head_cell a.index.text.now c.loop-label.table a.index.n c.loop-label.label ≡ head_cell a.index.text.now a.table.now a.index.n c.loop-label.label
same c =
    let a = c.args in
    head_cell_alike a.index.text.now a.table.now c.loop-label.table (settle_alike c.loop-label.invariant) a.index.n c.loop-label.label

pub overflow_add-label-end : goal.overflow_add-label-end
overflow_add-label-end c = omega (arith, c.requires.0.few)

pub loop-label-init : goal.loop-label-init
loop-label-init c =
    let a = c.args in
    settle_start (path_head_bad a.index.text.now a.table.now a.index.n) (head_cell a.index.text.now a.table.now a.index.n) a.index.n a.table.now

pub invariant_of-head_at : goal.invariant_of-head_at
invariant_of-head_at c =
    let a = c.args in
    let g = c.loop-label.invariant in
    let al = settle_alike g in record {
      rows = rows_alike a.index.text.now a.table.now c.loop-label.table al a.index.n (settle_size g) c.requires.0;
      all = linked_alike a.index.text.now a.table.now c.loop-label.table al c.requires.1;
    }

pub head_at-head-requires : goal.head_at-head-requires
head_at-head-requires c = (c.loop-label.invariant.pass.low, omega arith)

pub settle-requires : goal.settle-requires
settle-requires c =
    let a = c.args in
    let r = c.requires.0 in
    let high = head_cell_high a.index.text.now c.loop-label.table a.index.n c.loop-label.label in
    (c.loop-label.invariant.pass.low, omega (arith, settle_size c.loop-label.invariant, r.room), omega (arith, or_found c.head_at-head.ensures, r.few))

pub shape_of-table-in_err-settle : goal.shape_of-table-in_err-settle
shape_of-table-in_err-settle c =
    settle_kept c.loop-label.invariant (same (goal.at.shape_of-table-in_err-settle c).At-loop-label) c.head_at-head.ensures c.settle.ensures.table_after

pub returns-in_err-settle-clause-value : goal.returns-in_err-settle-clause-value
returns-in_err-settle-clause-value c =
    let a = c.args in
    let told : c.from_residual.result ≡ Err c.in_err-settle.field-0.0 = search rules in
    let h = c.settle.ensures in
    let rule = head_rule a.index.text.now a.table.now a.index.n in
    let stop = settle_stop c.loop-label.invariant (same (goal.at.returns-in_err-settle-clause-value c).At-loop-label) c.head_at-head.ensures h.table_after head_row rule h.value (omega arith) in
    told ∙ stop c.in_err-settle.was

pub loop-label-preserved : goal.loop-label-preserved
loop-label-preserved c =
    let a = c.args in
    let h = c.settle.ensures in
    let rule = head_rule a.index.text.now a.table.now a.index.n in
    settle_turn c.loop-label.invariant (same (goal.at.loop-label-preserved c).At-loop-label) c.head_at-head.ensures h.table_after head_row rule h.value (omega arith) c.in_ok-settle.was

pub shape_of-table : goal.shape_of-table
shape_of-table c = settle_size c.loop-label.invariant

pub returns : goal.returns
returns c =
    let g = c.loop-label.invariant in record {
      value = pass_done g.pass (omega arith);
      table_after = λ z. settle_all g (omega arith);
    }
