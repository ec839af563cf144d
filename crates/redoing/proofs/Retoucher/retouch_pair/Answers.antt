use mathlib.Core.Path.{◌≡◌, refl}
use Prim.Native.Nat.{◌+◌, ◌-◌}
use native.Mathlib.Omega.{arith}
use Rattle.cells.specs.Table.{owner, with_number}
use Rattle.order.specs.Following.{labels_of}
use Rattle.redoing.specs.RedoStages.{Redid, WindowPart}
use Rattle.redoing.specs.Pairs.{pair_label, pair_number}
use Rattle.redoing.proofs.Numbers.{number_label}
use Rattle.redoing.proofs.Windows.{window_named, part_named}
use Rattle.redoing.proofs.Applied.{owner_is, owner_few, pair_redoable, pair_done, change_fits, pair_applied, redoable_still, redid_still, applied_still}
use Rattle.redoing.proofs.Retoucher.retouch_pair.Goals as goal
use Rattle.redoing.proofs.Retoucher.retouch_pair.Goals.{After-part-part}

-- the part is that of the owner
own_part : (c : After-part-part) →
    WindowPart c.args.self.now.marked.square.now c.args.self.now.marked.n c.args.self.now.marked.plan.now
    (owner c.args.table.now (pair_label c.args.pairs.now (c.args.k + 1))) c.part-part.result.now
own_part c =
    part_named (owner_is _ c.args.self.now.marked.n _ (c.args.k + 1) c.pair_at-pair.ensures c.put_number.ensures c.label_cell-d.ensures) c.part-part.ensures

-- what going down it did is what going down the whole plan would have done
whole_done : (c : After-part-part) {c₀ c₁ : _} {r : _} →
    let line = pair_label c.args.pairs.now (c.args.k + 1) in
    Redid c.args.self.now.arithmetic c.put_number.new.table c.args.self.now.marked.n c.args.results.now (labels_of c.part-part.result.now) c.label_cell-d.result c₀ r c₁
    → Redid c.args.self.now.arithmetic (with_number line (pair_number c.args.pairs.now (c.args.k + 1)) c.args.table.now) c.args.self.now.marked.n c.args.results.now
    (labels_of c.args.self.now.marked.plan.now) (owner c.args.table.now line) c₀ r c₁
whole_done c did =
    let right = c.requires.k_bound.1 in
    pair_done _ _ _ _ _ c.requires.standing _ _ right.line right.number _ c.requires.row (own_part c)
    (redid_still _ _ _ (c.args.k + 1) c.pair_at-pair.ensures c.put_number.ensures c.label_cell-d.ensures did)

pub put_number-requires : goal.put_number-requires
put_number-requires c =
    let l = number_label _ _ c.requires.standing.accepted (pair_label c.args.pairs.now (c.args.k + 1)) c.requires.k_bound.1.line in
    let named = c.pair_at-pair.ensures.0 in
    (rw named l.0, omega (arith, named, l.1, c.requires.standing.accepted.room))

pub label_cell-d-requires : goal.label_cell-d-requires
label_cell-d-requires c =
    let named = c.pair_at-pair.ensures.0 in
    let l = number_label _ _ c.requires.standing.accepted (pair_label c.args.pairs.now (c.args.k + 1)) c.requires.k_bound.1.line in
    (rw named l.0, omega (arith, named, l.1, c.requires.standing.accepted.room, c.put_number.auto.table), omega arith)

pub part-part-requires : goal.part-part-requires
part-part-requires c =
    record {
      known = window_named (owner_is _ c.args.self.now.marked.n _ (c.args.k + 1) c.pair_at-pair.ensures c.put_number.ensures c.label_cell-d.ensures) c.requires.window;
      few = owner_few _ _ _ (c.args.k + 1) c.pair_at-pair.ensures c.put_number.ensures c.requires.standing.accepted c.requires.k_bound.1 c.label_cell-d.ensures;
    }

pub redo_down-change-requires-clause-redoable : goal.redo_down-change-requires-clause-redoable
redo_down-change-requires-clause-redoable c =
    let right = c.requires.k_bound.1 in
    redoable_still _ _ _ (c.args.k + 1) c.pair_at-pair.ensures c.put_number.ensures c.label_cell-d.ensures _
    (pair_redoable _ _ _ _ _ c.requires.standing _ _ right.line right.number _ c.requires.row (own_part (goal.at.redo_down-change-requires-clause-redoable c).After-part-part))

pub put_change-requires : goal.put_change-requires
put_change-requires c =
    let right = c.requires.k_bound.1 in
    let did = whole_done (goal.at.put_change-requires c).After-part-part c.redo_down-change.ensures in
    let few = change_fits _ _ _ _ _ c.requires.standing _ _ right.line right.number refl did in
    (omega (arith, c.requires.k_bound.0, c.requires.k_bound.2), few.0, few.1, few.2)

pub returns : goal.returns
returns c =
    let right = c.requires.k_bound.1 in
    let at = (goal.at.returns c).After-part-part in
    let at-index : c.args.k + 1 - 1 ≡ c.args.k = omega arith in
    applied_still _ _ _ (c.args.k + 1) c.pair_at-pair.ensures c.put_number.ensures c.label_cell-d.ensures
    (pair_applied _ _ _ _ _ c.requires.standing _ _ right.line right.number refl (whole_done at c.redo_down-change.ensures) c.args.pairs.now
    (c.args.k + 1) refl refl _ _ (rw at-index c.put_change.ensures))
