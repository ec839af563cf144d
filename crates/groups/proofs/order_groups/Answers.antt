use mathlib.Core.Path.{◌∙◌, subst}
use native.Mathlib.Omega.{arith}
use Prim.Native.Nat.{◌≤◌}
use Rattle.groups.specs.Opened.{GroupOrder}
use Rattle.groups.proofs.Turns.{going_skip, going_turn}
use Rattle.groups.proofs.order_groups.Goals as goal
use Rattle.groups.proofs.order_groups.Goals.{else-next-g-ne0-via-then-next-g-ne0+else-order_group, else-next-g-ne0-via-else-next-g-ne0}

pub loop-g-preserved : goal.loop-g-preserved
loop-g-preserved c =
    let p = c.requires in
    let inv = c.loop-g.invariant in
    let hi : c.loop-g.g ≤ c.args.sheet.n = omega (arith, c.loop-g-test.true) in
    elim c.else-next-g-ne0.branch [
      | else-next-g-ne0-via-then-next-g-ne0+else-order_group w ↦
          let o = subst (GroupOrder c.args.sheet.cells.now c.args.sheet.n c.loop-g.g c.loop-g.next _) w.if-order_group.false w.order_group.ensures in
          rw (w.next-is, w.items-is, w.mask-is, w.unmet-is, w.ready-is, w.order-is) (
            w.order_group.auto.next ∙ inv.0,
            w.order_group.auto.items ∙ inv.1,
            w.order_group.auto.mask ∙ inv.2,
            w.order_group.auto.unmet ∙ inv.3,
            w.order_group.auto.ready ∙ inv.4,
            w.order_group.auto.order ∙ inv.5,
            going_turn _ _ c.args.sheet.accepted _ p.le_from.0 _ _ inv.6 hi w.if-next-g-ne0.true _ o,
          )
      | else-next-g-ne0-via-else-next-g-ne0 w ↦ rw (w.next-is, w.items-is, w.mask-is, w.unmet-is, w.ready-is, w.order-is) (
        inv.0,
        inv.1,
        inv.2,
        inv.3,
        inv.4,
        inv.5,
        going_skip _ _ c.args.sheet.accepted _ p.le_from.0 _ _ inv.6 hi w.if-next-g-ne0.false,
      )
    ]
