use Rattle.std.proofs.Common.{rules}
use mathlib.Core.Path.{sym, ◌∙◌, subst}
use Rattle.std.specs.Prelude.{Option}
use Prim.Native.Nat.{ℕ, ◌<◌}
use native.Mathlib.Omega.{arith}
use Rattle.groups.proofs.Turns.{stopped}
use Rattle.opening.proofs.Stuck.{left, left_less}
use Rattle.opening.proofs.open_groups.Goals as goal

pub open_group-requires : goal.open_group-requires
open_group-requires g c =
    let p = c.requires in
    let inv = c.loop-stuck.invariant in
    let e = c.in-Some.is in (
      search rules,
      (
        search rules,
        (
          p.no_cycle,
          (
            (omega (arith, p.n_in_bounds.0, inv.1), omega (arith, p.n_in_bounds.1, inv.2)),
            (p.room, ((omega (arith, p.n_in_bounds_2.0, inv.0), inv.3.rows _ e), inv.3.turn _ e)),
          ),
        ),
      ),
    )

pub order_groups-stuck-requires : goal.order_groups-stuck-requires
order_groups-stuck-requires g c =
    let p = c.requires in
    let inv = c.loop-stuck.invariant in
    let op = inv.3.turn _ c.in-Some.is in (
      search rules,
      (
        (
          omega arith,
          omega (arith, op.high),
          omega (arith, p.n_in_bounds.0, inv.1, c.open_group.auto.next),
          omega (arith, p.n_in_bounds.1, inv.2, c.open_group.auto.items),
        ),
        (p.room.0, ((omega (arith, p.n_in_bounds_2.0, inv.0, c.open_group.auto.square), c.open_group.ensures.1), c.open_group.ensures.0)),
      ),
    )

pub loop-stuck-smaller : goal.loop-stuck-smaller
loop-stuck-smaller g c =
    let op = c.loop-stuck.invariant.3.turn _ c.in-Some.is in
    subst (λ (s : Option ℕ). left c.args.sheet.n c.order_groups-stuck.result < left c.args.sheet.n s) (sym c.in-Some.is)
    (left_less _ _ _ _ _ _ op.high (omega arith) c.order_groups-stuck.ensures)

pub overflow_add-group : goal.overflow_add-group
overflow_add-group g c = omega (arith, (c.loop-stuck.invariant.3.turn _ c.in-Some.is).high, c.args.sheet.accepted.few)

pub loop-stuck-preserved : goal.loop-stuck-preserved
loop-stuck-preserved g c =
    let p = c.requires in
    let inv = c.loop-stuck.invariant in (
      c.open_group.auto.square ∙ inv.0,
      c.order_groups-stuck.auto.next ∙ c.open_group.auto.next ∙ inv.1,
      c.order_groups-stuck.auto.items ∙ c.open_group.auto.items ∙ inv.2,
      stopped _ _ c.args.sheet.accepted _ _ _ _ (omega arith) c.open_group.ensures.1 c.order_groups-stuck.ensures,
    )
