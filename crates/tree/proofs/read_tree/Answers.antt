-- What the loop keeps is `Going`, at the labels passed.
use mathlib.Core.Path.{◌≡◌, ◌∙◌, sym, ap}
use mathlib.Core.Bool.{true, false, ◌&&◌}
use native.Mathlib.Omega.{arith}
use lib.ListN.{length}
use Rattle.kinds.proofs.Tests.{and_left, and_right}
use Rattle.refusals.specs.Refusal.{first_bad, or_else, Refused}
use Rattle.refusals.specs.Rows.{uses_row}
use Rattle.tree.specs.Tree.{structure_right, structure_bad}
use Rattle.tree.specs.TreeSteps.{used_right, propagated}
use Rattle.tree.proofs.Passes.{over_formed}
use Rattle.tree.proofs.Told.{and_else}
use Rattle.tree.proofs.Going.{going_start, going_ready, going_stop, going_turn, going_done, going_table, written, not_written}
use Rattle.tree.proofs.read_tree.Goals as goal
use Rattle.tree.proofs.read_tree.Goals.{Then-not-settle}

pub loop-label-init : goal.loop-label-init
loop-label-init c = (omega arith, omega arith, going_start c.args.table.now c.args.n c.requires)

pub settle-requires : goal.settle-requires
settle-requires c = going_ready c.args.table.now c.args.n c.requires.formed c.loop-label.table c.loop-label.label _ _ c.loop-label.invariant.0 (omega arith) c.loop-label.invariant.2

-- ---- a label that fails row 8 or 9 leaves the table as it was

module _ (c : Then-not-settle) where
  same : c.settle.new.table ≡ c.loop-label.table
  same = rw c.if-not-settle.true at c.settle.ensures.table_after

pub early_verdict-requires : goal.early_verdict-requires
early_verdict-requires c =
    rw (same (goal.at.early_verdict-requires c).Then-not-settle) (over_formed c.args.table.now c.args.n c.loop-label.table c.loop-label.invariant.2.claims.over c.requires.formed)

pub returns-then-not-settle : goal.returns-then-not-settle
returns-then-not-settle c =
    let now = same (goal.at.returns-then-not-settle c).Then-not-settle in
    let both : (structure_right c.loop-label.table c.loop-label.label && used_right c.loop-label.table c.loop-label.label) ≡ false = sym c.settle.ensures.value ∙ c.if-not-settle.true in
    let stop = going_stop c.args.table.now c.args.n c.requires.formed c.loop-label.table c.loop-label.label _ _ c.loop-label.invariant.0 (omega arith) c.loop-label.invariant.2 both in
    let row8 = first_bad (structure_bad c.loop-label.table) 1 c.args.n in
    let found : c.early_verdict.result ≡ or_else row8 (Refused uses_row c.loop-label.label) = rw now at c.early_verdict.ensures in record {
      value = found ∙ stop;
      written = not_written row8 c.early_verdict.result _ c.args.table.now c.args.n c.settle.new.table found (ap length now ∙ c.loop-label.invariant.2.claims.over.size);
    }

-- ---- one that passes

pub loop-label-preserved : goal.loop-label-preserved
loop-label-preserved c =
    let both : (structure_right c.loop-label.table c.loop-label.label && used_right c.loop-label.table c.loop-label.label) ≡ true = sym c.settle.ensures.value ∙ c.if-not-settle.false in
    let now : c.settle.new.table ≡ propagated c.loop-label.label c.loop-label.table = rw c.if-not-settle.false at c.settle.ensures.table_after in (
      omega arith,
      omega arith,
      rw (c.put_cell.ensures, c.and_label.ensures, c.argument_bad.ensures, c.and_label-in-loop-label.ensures, c.level_bad.ensures, now)
          (going_turn c.args.table.now c.args.n c.requires.formed c.loop-label.table c.loop-label.label c.loop-label.argument c.loop-label.level c.loop-label.invariant.0 (omega arith)
          c.loop-label.invariant.2
          (and_left (structure_right c.loop-label.table c.loop-label.label) (used_right c.loop-label.table c.loop-label.label) both)
          (and_right (structure_right c.loop-label.table c.loop-label.label) (used_right c.loop-label.table c.loop-label.label) both)),
    )

-- ---- every label has passed

pub returns : goal.returns
returns c = record {
  value = c.and.ensures ∙ and_else c.loop-label.argument c.loop-label.level
      ∙ going_done c.args.table.now c.args.n c.requires c.loop-label.table c.loop-label.label _ _ c.loop-label.invariant.1 (omega arith) c.loop-label.invariant.2;
  written = written c.and.result c.args.table.now c.args.n c.loop-label.table
      (going_table c.args.table.now c.args.n c.requires c.loop-label.table c.loop-label.label _ _ c.loop-label.invariant.1 (omega arith) c.loop-label.invariant.2);
}
