use mathlib.Core.Path.{refl, sym, subst}
use mathlib.Core.List.{List}
use Prim.Native.Nat.{ℕ, ◌≤◌, ◌<◌}
use native.Mathlib.Omega.{arith}
use lib.ListN.{length}
use lib.Seq.{length-take-le}
use Rattle.order.specs.Order.{is_member_of, members}
use Rattle.groups.specs.Members.{Gathered, Relinked}
use Rattle.groups.proofs.Chains.{labels_few}
use Rattle.groups.proofs.Orders.{member_walk, member_items, member_rows}
use Rattle.groups.proofs.Turns.{order_short, order_stuck, order_free, order_expanded, order_labels, order_once}
use Rattle.groups.proofs.order_group.Goals as goal
use Rattle.groups.proofs.order_group.Goals.{After-append_chain-m, After-place_items-r}

gathered : (c : After-append_chain-m) → Gathered (members c.args.sheet.cells.now c.args.sheet.n c.args.group) c.append_chain-m.new.items c.append_chain-m.result
gathered c = c.append_chain-m.ensures (members c.args.sheet.cells.now c.args.sheet.n c.args.group) c.requires.chain

room : (c : After-place_items-r) → c.args.sheet.n < length c.place_items-r.new.order
room c = omega (arith, c.requires.scratch.orders, c.place_items-r.auto.order)

pub append_chain-m-requires-clause-walkable_chain : goal.append_chain-m-requires-clause-walkable_chain
append_chain-m-requires-clause-walkable_chain c =
    let p = c.requires in
    member_walk _ _ c.args.sheet.accepted c.args.group _ _ _ p.chain (omega (arith, p.le_group.3, labels_few (is_member_of c.args.sheet.cells.now c.args.group) c.args.sheet.n))

pub place_items-r-requires-clause-items : goal.place_items-r-requires-clause-items
place_items-r-requires-clause-items c =
    member_items _ _ c.args.sheet.accepted _ _ _ (gathered (goal.at.place_items-r-requires-clause-items c).After-append_chain-m)

pub place_items-r-requires-clause-n_in_bounds : goal.place_items-r-requires-clause-n_in_bounds
place_items-r-requires-clause-n_in_bounds c =
    let p = c.requires in
    let k = gathered (goal.at.place_items-r-requires-clause-n_in_bounds c).After-append_chain-m in
    (p.n_in_bounds.0, member_rows _ _ c.args.sheet.accepted _ _ _ k _ p.n_in_bounds.1)

pub returns-then-r-m : goal.returns-then-r-m
returns-then-r-m c =
    let p = c.requires in
    let k = gathered (goal.at.returns-then-r-m c).After-append_chain-m in
    let h = room (goal.at.returns-then-r-m c).After-place_items-r in
    (order_stuck _ _ c.args.sheet.accepted _ _ _ k _ h _ c.place_items-r.ensures c.if-r-m.true, refl)

-- what is in order
short : (c : After-place_items-r) → c.place_items-r.result ≤ length c.place_items-r.new.order
short c =
    let h = room c in
    omega (arith, order_short _ _ c.args.sheet.accepted _ _ _ (c.append_chain-m.ensures _ c.requires.chain) _ h _ c.place_items-r.ensures, h)

pub slice_bounds-relink-end : goal.slice_bounds-relink-end
slice_bounds-relink-end c = short (goal.at.slice_bounds-relink-end c).After-place_items-r

pub slice_bounds-relink-end-2 : goal.slice_bounds-relink-end-2
slice_bounds-relink-end-2 c = sym (length-take-le _ _ (short (goal.at.slice_bounds-relink-end-2 c).After-place_items-r))

pub relink-requires-clause-by_index : goal.relink-requires-clause-by_index
relink-requires-clause-by_index c =
    let p = c.requires in
    let k = gathered (goal.at.relink-requires-clause-by_index c).After-append_chain-m in
    let h = room (goal.at.relink-requires-clause-by_index c).After-place_items-r in
    let e = c.place_items-r.ensures in
    (order_labels _ _ c.args.sheet.accepted _ _ _ k _ h _ e c.if-r-m.false, order_once _ _ c.args.sheet.accepted _ _ _ k _ h _ e c.if-r-m.false)

pub returns : goal.returns
returns c =
    let p = c.requires in
    let k = gathered (goal.at.returns c).After-append_chain-m in
    let h = room (goal.at.returns c).After-place_items-r in
    let e = c.place_items-r.ensures in (
      subst (λ (l : List ℕ). Relinked c.args.sheet.n c.args.group l c.args.next.now c.relink.new.next)
          (order_expanded _ _ c.args.sheet.accepted _ _ _ k _ h _ e c.if-r-m.false) c.relink.ensures,
      order_free _ _ c.args.sheet.accepted _ _ _ k _ h _ e c.if-r-m.false,
    )
