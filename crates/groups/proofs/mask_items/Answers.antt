use mathlib.Core.Path.{sym, ◌∙◌, subst}
use Prim.Native.Nat.{ℕ, ◌≤◌}
use native.Mathlib.Omega.{arith}
use Rattle.order.specs.LabelLists.{◌∈◌}
use Rattle.order.proofs.Tables.{def_label}
use Rattle.placing.proofs.Lists.{in_at}
use Rattle.groups.proofs.Orders.{mask_put, mask_skip}
use Rattle.groups.proofs.mask_items.Goals as goal
use Rattle.groups.proofs.mask_items.Goals.{After-from-p, else-is_masked, then-is_masked}

module _ (c : After-from-p) where
  here :
      c.from-p.result ∈ c.args.items.now
  here =
      subst (λ (x : ℕ). x ∈ c.args.items.now) (sym c.from-p.ensures) (in_at c.args.items.now c.loop-x.x-index c.loop-x-test.true)

  label :
      (1 ≤ c.from-p.result) × (c.from-p.result ≤ c.args.sheet.n)
  label =
      def_label _ _ c.args.sheet.accepted c.from-p.result (c.requires.0 c.from-p.result here)

pub is_masked-requires : goal.is_masked-requires
is_masked-requires c = label (goal.at.is_masked-requires c).After-from-p

pub put_mark-requires : goal.put_mark-requires
put_mark-requires c =
    let inv = c.loop-x.invariant in
    (omega (arith, label (goal.at.put_mark-requires c).After-from-p), omega (arith, c.requires.1, inv.0, c.clear_marks.auto.s))

pub loop-x-preserved : goal.loop-x-preserved
loop-x-preserved c =
    let a = c.args in
    let taken = c.loop-x-test.true in
    let b = label (goal.at.loop-x-preserved c).After-from-p in
    elim c.if-is_masked.branch [
      | then-is_masked w ↦ rw w.mask-is (
        w.put_mark.auto.s ∙ c.loop-x.invariant.0,
        mask_put a.sheet.cells.now a.sheet.n a.groups a.items.now c.loop-x.mask c.loop-x.x-index _ c.from-p.ensures taken c.loop-x.invariant.1 (omega (arith, b))
            (sym c.is_masked.ensures ∙ w.if-is_masked.true) _ w.put_mark.ensures,
      )
      | else-is_masked w ↦ rw w.mask-is (
        c.loop-x.invariant.0,
        mask_skip a.sheet.cells.now a.sheet.n a.groups a.items.now c.loop-x.mask c.loop-x.x-index _ c.from-p.ensures taken c.loop-x.invariant.1
            (sym c.is_masked.ensures ∙ w.if-is_masked.false),
      )
    ]
