use mathlib.Core.Path.{◌≡◌, sym, ◌∙◌}
use Prim.Native.Nat.{ℕ, ◌≤◌}
use native.Mathlib.Omega.{arith}
use borrow.Author.Count.{below_more}
use lib.ListN.{get_or}
use Rattle.kinds.proofs.Codes.{value_body}
use Rattle.kinds.specs.Kinds.{value_code}
use Rattle.cells.specs.Table.{kind}
use Rattle.reach.specs.declared.RowState.TheVariants.{New}
use Rattle.reach.proofs.Reading.{is_value, no_value}
use Rattle.reach.proofs.Visits.{going_more, begun_more, rows_all}
use Rattle.reach.proofs.LinkChains.reach_rows.Goals as goal
use Rattle.reach.proofs.LinkChains.reach_rows.Goals.{else-eq, then-eq}

pub visit-requires-clause-mark_rows : goal.visit-requires-clause-mark_rows
visit-requires-clause-mark_rows c = (c.loop-v.invariant.0.rows, rw (is_value _ _ c.kind.ensures (sym c.eq.ensures ∙ c.if-eq.true)) value_body)

pub loop-v-preserved : goal.loop-v-preserved
loop-v-preserved c =
    let ok = c.args.self.now.sheet.accepted in
    elim c.if-eq.branch [
      | then-eq w ↦ let v = w.visit in
          rw (w.state-is, w.square-is) (going_more _ _ ok _ _ _ _ _ c.loop-v.invariant.0 _ _ _ v.ensures v.auto.square, begun_more _ _ ok _ _ _ _ _ c.loop-v.invariant.1 v.ensures)
      | else-eq w ↦ rw (w.state-is, w.square-is) (
        c.loop-v.invariant.0,
        below_more (λ (u : ℕ). 1 ≤ u → kind c.args.self.now.sheet.cells.now u ≡ value_code → get_or c.loop-v.state u New ≡ New → ⊥) c.loop-v.v c.loop-v.invariant.1
            (λ i e. absurd (no_value _ _ c.kind.ensures (sym c.eq.ensures ∙ w.if-eq.false) e)),
      )
    ]

pub returns : goal.returns
returns c =
    let now = c.loop-v.invariant.0 in
    rows_all _ _ c.args.self.now.sheet.accepted _ _ _ _ c.requires.new now.since now.rows (λ v a b. c.loop-v.invariant.1 v (omega (arith, c.loop-v-test.false)) a)
