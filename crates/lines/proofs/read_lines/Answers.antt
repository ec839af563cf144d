-- What the loop keeps is `Going`; its laws are in Pass.
use mathlib.Core.Path.{◌≡◌, ◌∙◌, sym, ap}
use Prim.Native.Nat.{ℕ, ◌-◌, ◌*◌}
use native.Mathlib.Omega.{arith}
use lib.ListN.{length}
use Rattle.std.specs.Prelude.{Err}
use Rattle.lines.specs.LineSteps.{lines_written}
use Rattle.lines.proofs.Heads.{headed, refusal_is}
use Rattle.lines.proofs.Pass.{Stopped, start, inside, went, stopped, turn, stop, done}
use Rattle.lines.proofs.read_lines.Goals as goal
use Rattle.lines.proofs.read_lines.Goals.{In-Err}

pub after_first-at-requires : goal.after_first-at-requires
after_first-at-requires c = c.requires.0

pub loop-label-init : goal.loop-label-init
loop-label-init c =
    let s = c.args.text.now in
    rw c.after_first-at.ensures (start s c.args.n (headed s c.requires.0) c.requires.1 c.args.table.now)

pub invariant_of-lines : goal.invariant_of-lines
invariant_of-lines c =
    let h = headed c.args.text.now c.requires.0 in
    record { size = h.size; ends = h.ends; allowed = h.allowed; few = omega (arith, h.high) }

pub step-requires : goal.step-requires
step-requires c =
    let h = headed c.args.text.now c.requires.0 in
    let inv = c.loop-label.invariant in record {
      at_in_bounds =
          inside c.args.text.now c.args.n h c.requires.1 c.args.table.now c.loop-label.at c.loop-label.label c.loop-label.table c.loop-label.invariant (omega arith);
      le_label = (inv.low, omega (arith, h.high), omega (arith, inv.size, c.requires.2));
    }

refused : (c : In-Err) →
    Stopped c.args.n c.loop-label.label c.args.text.now c.loop-label.at c.in-Err.row
refused c =
    stopped c.args.n c.loop-label.label c.args.text.now c.loop-label.at c.in-Err.row (sym c.step.ensures.value ∙ c.in-Err.is)

-- a line that is refused leaves the table as it was
kept : (c : In-Err) →
    c.step.new.table ≡ c.loop-label.table
kept c =
    c.step.ensures.table_after ∙ (refused c).cells (8 * (c.loop-label.label - 1)) c.loop-label.table

pub shape_of-table-in-Err : goal.shape_of-table-in-Err
shape_of-table-in-Err c =
    let inv = c.loop-label.invariant in
    ap length (kept (goal.at.shape_of-table-in-Err c).In-Err) ∙ inv.size

pub returns-in-Err : goal.returns-in-Err
returns-in-Err c = record {
  value = ap Err (refusal_is c.at.result c.in-Err.row c.loop-label.label c.at.ensures)
      ∙ stop c.args.text.now c.args.n (headed c.args.text.now c.requires.0) c.requires.1 c.args.table.now c.loop-label.at c.loop-label.label c.loop-label.table
      c.loop-label.invariant
      (omega arith) c.in-Err.row (refused (goal.at.returns-in-Err c).In-Err);
  table_after = kept (goal.at.returns-in-Err c).In-Err ∙ c.loop-label.invariant.table
      ∙ ap (λ (p : ℕ). lines_written c.args.text.now c.args.n (p - 1) c.args.table.now) (sym c.at.ensures.1);
}

pub loop-label-preserved : goal.loop-label-preserved
loop-label-preserved c =
    turn c.args.text.now c.args.n (headed c.args.text.now c.requires.0) c.requires.1 c.args.table.now c.loop-label.at c.loop-label.label c.loop-label.table c.loop-label.invariant
    (omega arith) c.in-Ok.next c.step.new.table
    (went c.args.n c.loop-label.label c.args.text.now c.loop-label.at c.in-Ok.next (sym c.step.ensures.value ∙ c.in-Ok.is)) c.step.ensures.table_after c.requires.2

pub shape_of-table : goal.shape_of-table
shape_of-table c = c.loop-label.invariant.size

pub returns : goal.returns
returns c =
    let inv = c.loop-label.invariant in
    let q : c.loop-label.label - 1 ≡ c.args.n = omega (arith, inv.high) in record {
      value = done c.args.text.now c.args.n (headed c.args.text.now c.requires.0) c.requires.1 c.args.table.now c.loop-label.at c.loop-label.label
          c.loop-label.table c.loop-label.invariant (omega arith);
      table_after = inv.table ∙ ap (λ k. lines_written c.args.text.now c.args.n k c.args.table.now) q;
    }
