use mathlib.Core.Path.{◌≡◌, refl, sym, ap, ◌∙◌, subst}
use Prim.Native.Nat.{ℕ, ◌≤◌, ◌<◌}
use native.Mathlib.Omega.{arith}
use lib.ListN.{length, length-set}
use mir.Syntax.{w64}
use mir.Facts.{to_z_pos}
use Rattle.kinds.specs.Kinds.{value_code}
use Rattle.cells.specs.Table.{kind}
use Rattle.order.proofs.Tables.{kind_g}
use Rattle.reach.proofs.Reading.{is_value, no_value}
use Rattle.planning.specs.Listing.{list_of, PutAt}
use Rattle.planning.proofs.Listing.{turn_start, turn_end, turn_label, is_group, no_group, turn_less, value_room, value_turn, group_free, group_room, group_turn, none_turn}
use Rattle.planning.proofs.+list_group.Goals as goal
use Rattle.planning.proofs.+list_group.Goals.{In-loop-x, Then-eq}

-- in a turn: the member at hand is a label above the Group
module _ (t : ℕ) (c : In-loop-x t) where
  label : (1 ≤ c.loop-x.x) × (c.loop-x.x ≤ c.args.sheet.n) × (c.args.group < c.loop-x.x)
  label = turn_label _ _ c.args.sheet.accepted _ _ _ _ _ _ _ c.loop-x.invariant.1 c.loop-x-test.true

-- where it is a value, there is room for it
module _ (t : ℕ) (c : Then-eq t) where
  value : kind c.args.sheet.cells.now c.loop-x.x ≡ value_code
  value = ap (kind c.args.sheet.cells.now) (sym c.from-p.ensures) ∙ is_value _ _ c.kind-k.ensures (sym c.eq.ensures ∙ c.if-eq.true)

  room : c.loop-x.to < length c.loop-x.plan
  room =
      let p = c.requires in
      value_room _ _ c.args.sheet.accepted _ _ _ _ _ _ _ c.loop-x.invariant.1 c.loop-x-test.true value
      (kind_g c.args.sheet.cells.now c.args.group p.le_group.2) _ (omega (arith, p.group_in_bounds, c.loop-x.invariant.0))

pub loop-x-init : goal.loop-x-init
loop-x-init t c =
    let p = c.requires in
    let g = p.le_group in
    (refl, turn_start _ _ c.args.sheet.accepted _ _ _ _ _ (p.n_in_bounds.1.done c.args.group g.0 g.1 (omega (arith, g.1)) g.3))

pub overflow_add-x : goal.overflow_add-x
overflow_add-x t c = omega (arith, label t (goal.at.overflow_add-x t c).In-loop-x, c.from-p.ensures, c.args.sheet.accepted.few)

pub offset_bounds-next-sheet : goal.offset_bounds-next-sheet
offset_bounds-next-sheet t c = omega (arith, label t (goal.at.offset_bounds-next-sheet t c).In-loop-x, c.from-p.ensures, c.args.sheet.accepted.few)

pub bounds-next-sheet : goal.bounds-next-sheet
bounds-next-sheet t c = omega (arith, label t (goal.at.bounds-next-sheet t c).In-loop-x, c.from-p.ensures, c.requires.n_in_bounds.0)

pub kind-k-requires : goal.kind-k-requires
kind-k-requires t c =
    let b = label t (goal.at.kind-k-requires t c).In-loop-x in
    (omega (arith, b, c.from-p.ensures), omega (arith, b, c.from-p.ensures))

pub overflow_cast-plan : goal.overflow_cast-plan
overflow_cast-plan t c = record { sfits = omega (arith, label t (goal.at.overflow_cast-plan t c).In-loop-x, c.from-p.ensures, c.args.sheet.accepted.few) }

pub bounds-plan-to : goal.bounds-plan-to
bounds-plan-to t c = room t (goal.at.bounds-plan-to t c).Then-eq

pub loop-x-smaller-then-eq : goal.loop-x-smaller-then-eq
loop-x-smaller-then-eq t c =
    rw c.from-p.ensures (turn_less _ _ c.args.sheet.accepted _ _ _ _ _ _ _ c.loop-x.invariant.1 c.loop-x-test.true)

pub loop-x-preserved-then-eq : goal.loop-x-preserved-then-eq
loop-x-preserved-then-eq t c =
    let at = (goal.at.loop-x-preserved-then-eq t c).Then-eq in
    let b = label t (goal.at.loop-x-preserved-then-eq t c).In-loop-x in (
      length-set c.loop-x.plan _ _ ∙ c.loop-x.invariant.0,
      rw c.from-p.ensures (value_turn _ _ c.args.sheet.accepted _ _ _ _ _ _ _ c.loop-x.invariant.1 c.loop-x-test.true (value t at) _
          (to_z_pos w64 {n = c.loop-x.x} (omega (arith, b, c.args.sheet.accepted.few))) (room t at)),
    )

pub list_group-to-requires : goal.list_group-to-requires
list_group-to-requires t c =
    let p = c.requires in
    let b = label t (goal.at.list_group-to-requires t c).In-loop-x in
    let u = c.loop-x.invariant.1 in
    let k = ap (kind c.args.sheet.cells.now) (sym c.from-p.ensures) ∙ is_group _ _ c.kind-k.ensures (sym c.eq-else-eq.ensures ∙ c.if-eq-2.true) in (
      omega (arith, b, c.decreases, p.le_group.1, c.from-p.ensures),
      (
        p.n_in_bounds,
        (
          rw c.from-p.ensures (b.0, b.1, k, group_free _ _ c.args.sheet.accepted _ _ _ _ _ _ _ u c.loop-x-test.true k p.le_group.0 p.le_group.3),
          rw c.from-p.ensures (group_room _ _ c.args.sheet.accepted _ _ _ _ _ _ _ u c.loop-x-test.true k
              (kind_g c.args.sheet.cells.now c.args.group p.le_group.2) _ (omega (arith, p.group_in_bounds, c.loop-x.invariant.0))),
        ),
      ),
    )

pub loop-x-smaller-then-eq-2 : goal.loop-x-smaller-then-eq-2
loop-x-smaller-then-eq-2 t c =
    rw c.from-p.ensures (turn_less _ _ c.args.sheet.accepted _ _ _ _ _ _ _ c.loop-x.invariant.1 c.loop-x-test.true)

pub loop-x-preserved-then-eq-2 : goal.loop-x-preserved-then-eq-2
loop-x-preserved-then-eq-2 t c =
    let a = c.args in
    let k = ap (kind a.sheet.cells.now) (sym c.from-p.ensures) ∙ is_group _ _ c.kind-k.ensures (sym c.eq-else-eq.ensures ∙ c.if-eq-2.true) in (
      c.list_group-to.auto.plan ∙ c.loop-x.invariant.0,
      rw c.from-p.ensures (group_turn _ _ c.args.sheet.accepted _ _ _ _ _ _ _ c.loop-x.invariant.1 c.loop-x-test.true k _ _
          (subst (λ (q : ℕ). PutAt (list_of a.sheet.cells.now a.sheet.n q) c.loop-x.to c.loop-x.plan c.list_group-to.new.plan c.list_group-to.result) c.from-p.ensures
          c.list_group-to.ensures)),
    )

pub loop-x-smaller : goal.loop-x-smaller
loop-x-smaller t c =
    rw c.from-p.ensures (turn_less _ _ c.args.sheet.accepted _ _ _ _ _ _ _ c.loop-x.invariant.1 c.loop-x-test.true)

pub loop-x-preserved : goal.loop-x-preserved
loop-x-preserved t c =
    let e = ap (kind c.args.sheet.cells.now) c.from-p.ensures in (
      c.loop-x.invariant.0,
      rw c.from-p.ensures (none_turn _ _ c.args.sheet.accepted _ _ _ _ _ _ _ c.loop-x.invariant.1 c.loop-x-test.true
          (λ z. no_value _ _ c.kind-k.ensures (sym c.eq.ensures ∙ c.if-eq.false) (e ∙ z))
          (λ z. no_group _ _ c.kind-k.ensures (sym c.eq-else-eq.ensures ∙ c.if-eq-2.false) (e ∙ z))),
    )

pub returns : goal.returns
returns t c =
    turn_end _ _ c.args.sheet.accepted _ _ _ _ _ _ _ c.loop-x.invariant.1 (kind_g c.args.sheet.cells.now c.args.group c.requires.le_group.2) c.loop-x-test.false
