use mathlib.Core.Path.{sym, ◌∙◌}
use native.Mathlib.Omega.{arith}
use Rattle.reach.proofs.Reading.{is_value, no_value}
use Rattle.following.proofs.Words.{values_put, values_skip, values_end}
use Rattle.following.proofs.mark_values.Goals as goal
use Rattle.following.proofs.mark_values.Goals.{then-eq, else-eq}

pub loop-v-preserved : goal.loop-v-preserved
loop-v-preserved c =
    let cells = c.args.sheet.cells.now in
    let taken = c.loop-v-test.true in
    elim c.if-eq.branch [
      | then-eq w ↦
          let v = is_value c.kind.result _ c.kind.ensures (sym c.eq.ensures ∙ w.if-eq.true) in
          rw w.left-is (
            w.put_mark.auto.s ∙ c.loop-v.invariant.0,
            omega arith,
            omega (arith, taken),
            values_put cells c.loop-v.left _ _ c.loop-v.invariant.3 _ (omega (arith, taken)) v w.put_mark.ensures,
          )
      | else-eq w ↦
          let v = no_value c.kind.result _ c.kind.ensures (sym c.eq.ensures ∙ w.if-eq.false) in
          rw w.left-is (c.loop-v.invariant.0, omega arith, omega (arith, taken), values_skip cells c.loop-v.left _ _ c.loop-v.invariant.3 v)
    ]

pub returns : goal.returns
returns c = values_end _ _ c.args.sheet.accepted _ _ (omega (arith, c.loop-v-test.false)) c.loop-v.invariant.3
