use native.Mathlib.Omega.{arith}
use Rattle.groups.proofs.Progress.{some_tangled, none_tangled}
use Rattle.groups.proofs.Turns.{stopped}
use Rattle.planning.proofs.Plans.{zero_lists, is_none, is_some, plan_short_lem, plan_whole, plan_mixed, top_free}
use Rattle.planning.proofs.list_plan.Goals as goal

pub list_group-requires-clause-le_group : goal.list_group-requires-clause-le_group
list_group-requires-clause-le_group g c =
    let p = c.requires in
    (omega arith, c.args.sheet.accepted.some, c.args.sheet.accepted.root, top_free _ _ c.args.sheet.accepted _)

pub list_group-requires-clause-group_in_bounds : goal.list_group-requires-clause-group_in_bounds
list_group-requires-clause-group_in_bounds g c =
    let p = c.requires in
    omega (arith, p.n_in_bounds.0, plan_short_lem _ _ c.args.sheet.accepted p.n_in_bounds.1)

pub returns-then-is_none : goal.returns-then-is_none
returns-then-is_none g c =
    let p = c.requires in
    let none = is_none _ c.if-is_none.ensures in
    plan_whole _ _ c.args.sheet.accepted _ _ _ p.n_in_bounds.1 c.list_group.ensures (none_tangled _ _ c.args.sheet.accepted (c.order_groups-stuck.ensures.free none))

pub open_stuck-requires : goal.open_stuck-requires
open_stuck-requires g c =
    let p = c.requires in
    let r = p.room.0 in
    let f = zero_lists c.args.sheet.n g.row.N g.row.W g.row.L (omega (arith, r.labels)) r.words p.room.1 in (
      omega (arith, p.small),
      (
        p.n_in_bounds.1,
        (
          (
            omega (arith, f.0.0, c.link_members.auto.next, c.order_groups-stuck.auto.next),
            omega (arith, f.1.0, c.order_groups-stuck.auto.items),
          ),
          (
            p.room,
            (
              p.small,
              (p.n_in_bounds_2.0, stopped _ _ c.args.sheet.accepted 1 _ _ _ (omega arith) (λ x y a b l. p.n_in_bounds_2.1 x y a b) c.order_groups-stuck.ensures),
            ),
          ),
        ),
      ),
    )

pub list_group-requires-2-clause-le_group : goal.list_group-requires-2-clause-le_group
list_group-requires-2-clause-le_group g c =
    let p = c.requires in
    (omega arith, c.args.sheet.accepted.some, c.args.sheet.accepted.root, top_free _ _ c.args.sheet.accepted _)

pub list_group-requires-2-clause-group_in_bounds : goal.list_group-requires-2-clause-group_in_bounds
list_group-requires-2-clause-group_in_bounds g c =
    let p = c.requires in
    omega (arith, p.n_in_bounds.0, plan_short_lem _ _ c.args.sheet.accepted p.n_in_bounds.1)

pub returns : goal.returns
returns g c =
    let p = c.requires in
    let there = is_some _ c.if-is_none.ensures in
    let s = c.order_groups-stuck.ensures.stuck there.0 there.1 in
    plan_mixed _ _ c.args.sheet.accepted _ _ _ p.n_in_bounds.1 c.list_group-2.ensures (some_tangled _ _ c.args.sheet.accepted _ s.0 s.1 s.4)
