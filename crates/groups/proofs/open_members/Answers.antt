use mathlib.Core.Path.{◌∙◌}
use Prim.Native.Nat.{◌≤◌}
use native.Mathlib.Omega.{arith}
use lib.ListN.{get_or, length-set}
use Rattle.order.specs.Order.{members}
use Rattle.order.proofs.Tables.{def_label}
use Rattle.groups.specs.Members.{Chain}
use Rattle.groups.proofs.Orders.{member_walk}
use Rattle.groups.proofs.Opening.{opening_few, opening_inside, opening_room, opening_chain, opening_turn, opening_end}
use Rattle.groups.proofs.open_members.Goals as goal
use Rattle.groups.proofs.open_members.Goals.{After-from-x, At-loop-i}

-- there are no more than n
few : (c : At-loop-i) → c.loop-i.k ≤ c.args.sheet.n
few c = let p = c.requires in opening_few _ _ c.args.sheet.accepted _ p.siblings.0 _ _ _ _ _ c.loop-i.invariant.2

-- in a turn: the label at hand, and its chain
module _ (c : After-from-x) where
  label :
      c.from-x.result ≤ c.args.sheet.n
  label =
      let p = c.requires in
      (def_label _ _ c.args.sheet.accepted c.from-x.result
      (opening_inside _ _ c.args.sheet.accepted _ p.siblings.0 _ _ _ _ _ c.loop-i.invariant.2 c.from-x.result c.from-x.ensures c.loop-i-test.true).0).1

  chain :
      let a = c.args in
      let next = c.loop-i.next in
      Chain a.sheet.n next (get_or next c.from-x.result 0) (members a.sheet.cells.now a.sheet.n c.from-x.result)
  chain =
      let p = c.requires in
      opening_chain _ _ c.args.sheet.accepted _ p.siblings.0 _ _ _ _ _ c.loop-i.invariant.2 c.from-x.result c.from-x.ensures c.loop-i-test.true p.siblings.1

pub append_chain-k-requires : goal.append_chain-k-requires
append_chain-k-requires c =
    let p = c.requires in record {
      n_le_label_limit = (c.args.sheet.accepted.few, label (goal.at.append_chain-k-requires c).After-from-x, omega (arith, p.n_in_bounds.0, c.loop-i.invariant.0), c.loop-i.invariant.2.within);
      walkable_chain = member_walk _ _ c.args.sheet.accepted _ _ _ _ (chain (goal.at.append_chain-k-requires c).After-from-x)
          (opening_room _ _ c.args.sheet.accepted _ p.siblings.0 _ _ _ _ _ c.loop-i.invariant.2 c.from-x.result c.from-x.ensures c.loop-i-test.true
          (omega (arith, p.n_in_bounds.1, c.loop-i.invariant.1)));
    }

pub bounds-next-x : goal.bounds-next-x
bounds-next-x c = omega (arith, label (goal.at.bounds-next-x c).After-from-x, c.requires.n_in_bounds.0, c.loop-i.invariant.0)

pub loop-i-smaller : goal.loop-i-smaller
loop-i-smaller c = omega (arith, few (goal.at.loop-i-smaller c).At-loop-i, c.loop-i-test.true)

pub loop-i-preserved : goal.loop-i-preserved
loop-i-preserved c =
    let p = c.requires in (
      length-set c.loop-i.next _ _ ∙ c.loop-i.invariant.0,
      c.append_chain-k.auto.items ∙ c.loop-i.invariant.1,
      opening_turn _ _ c.args.sheet.accepted _ p.siblings.0 _ _ _ _ _ c.loop-i.invariant.2 c.from-x.result c.from-x.ensures c.loop-i-test.true _ _
          (c.append_chain-k.ensures _ (chain (goal.at.loop-i-preserved c).After-from-x)) (omega (arith, label (goal.at.loop-i-preserved c).After-from-x, p.n_in_bounds.0, c.loop-i.invariant.0)),
    )

pub returns : goal.returns
returns c =
    let p = c.requires in
    let e = opening_end _ _ c.args.sheet.accepted _ p.siblings.0 _ _ _ _ _ c.loop-i.invariant.2 (omega (arith, c.loop-i-test.false)) in
    record { all_inside = e.0; chains_cleared = e.1 }
