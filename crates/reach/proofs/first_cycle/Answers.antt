use mathlib.Core.Path.{◌≡◌, sym, ◌∙◌}
use Prim.Native.Nat.{ℕ}
use native.Mathlib.Omega.{arith}
use borrow.Author.Count.{below_more}
use Rattle.kinds.specs.Kinds.{value_code}
use Rattle.cells.specs.Table.{kind}
use Rattle.cells.specs.Reaches.{Reaches}
use Rattle.order.proofs.Tables.{kind_label}
use Rattle.reach.proofs.Reading.{is_value, no_value}
use Rattle.reach.proofs.Cycle.{smallest_is, none_is, cycle_marked, cycle_unmarked}
use Rattle.reach.proofs.first_cycle.Goals as goal
use Rattle.reach.proofs.first_cycle.Goals.{else-eq, then-eq+else-has_mark}

pub loop-v-init : goal.loop-v-init
loop-v-init c = λ u h k. absurd (omega (arith, kind_label _ _ c.args.sheet.accepted u (omega arith)))

pub returns-then-has_mark : goal.returns-then-has_mark
returns-then-has_mark c =
    let pre = c.requires in
    let ok = c.args.sheet.accepted in
    let k = is_value _ _ c.kind.ensures (sym c.eq.ensures ∙ c.if-eq.true) in
    smallest_is _ _ ok _ c.loop-v.auto.v k (cycle_marked _ _ ok _ pre.column _ pre.all_mark_rows _ k (sym c.has_mark.ensures ∙ c.if-has_mark.true)) c.loop-v.invariant

pub loop-v-preserved : goal.loop-v-preserved
loop-v-preserved c =
    let t = c.args.sheet.cells.now in
    below_more (λ (u : ℕ). kind t u ≡ value_code → Reaches t u u → ⊥) c.loop-v.v c.loop-v.invariant
    (λ k. elim c.if-eq.branch [
      | then-eq+else-has_mark w ↦ cycle_unmarked _ _ c.args.sheet.accepted _ c.requires.column _ c.requires.all_mark_rows _ k (sym w.has_mark.ensures ∙ w.if-has_mark.false)
      | else-eq w ↦ absurd (no_value _ _ c.kind.ensures (sym c.eq.ensures ∙ w.if-eq.false) k)
    ])

pub returns : goal.returns
returns c =
    let ok = c.args.sheet.accepted in
    none_is _ _ ok (λ v k. c.loop-v.invariant v (omega (arith, c.loop-v-test.false, kind_label _ _ ok v (omega arith))) k)
