use mathlib.Core.Path.{sym, subst}
use mathlib.Core.List.{List}
use Prim.Native.Nat.{ℕ}
use native.Mathlib.Omega.{arith}
use Rattle.order.specs.Order.{member_block}
use Rattle.groups.specs.Members.{Gathered}
use Rattle.groups.specs.Opening.{Siblings, MemberChains, AllInside}
use Rattle.groups.proofs.Orders.{walkable}
use Rattle.groups.proofs.Opening.{values_listed, block_siblings, block_few}
use Rattle.groups.proofs.gather_block.Goals as goal
use Rattle.groups.proofs.gather_block.Goals.{After-append_chain-m, After-open_members-k}

-- the block's members
gathered : (c : After-append_chain-m) →
    let a = c.args in
    Gathered (member_block a.sheet.cells.now a.sheet.n a.group a.b) c.append_chain-m.new.items c.append_chain-m.result
gathered c = c.append_chain-m.ensures _ c.requires.chain.0

-- what is in the block or under it
opened : (c : After-open_members-k) →
    let a = c.args in
    AllInside a.sheet.cells.now (member_block a.sheet.cells.now a.sheet.n a.group a.b) c.open_members-k.new.items c.open_members-k.result
opened c =
    let a = c.args in
    subst (λ (block : List ℕ). AllInside a.sheet.cells.now block c.open_members-k.new.items c.open_members-k.result)
    (c.append_chain-m.ensures _ c.requires.chain.0).cells c.open_members-k.ensures.all_inside

pub append_chain-m-requires-clause-walkable_chain : goal.append_chain-m-requires-clause-walkable_chain
append_chain-m-requires-clause-walkable_chain c =
    let p = c.requires in
    let a = c.args in
    let s = block_siblings _ _ a.sheet.accepted a.group a.b in
    walkable _ _ a.sheet.accepted _ _ _ _ p.chain.0 s.defs (omega (arith, block_few _ _ a.sheet.accepted a.group a.b, p.b_le_n.3))

pub open_members-k-requires-clause-siblings : goal.open_members-k-requires-clause-siblings
open_members-k-requires-clause-siblings c =
    let a = c.args in
    let e = sym (gathered (goal.at.open_members-k-requires-clause-siblings c).After-append_chain-m).cells in (
      subst (Siblings a.sheet.cells.now) e (block_siblings _ _ a.sheet.accepted a.group a.b),
      subst (λ (block : List ℕ). MemberChains a.sheet.cells.now a.sheet.n block a.next.now) e c.requires.chain.1,
    )

pub returns-clause-gathered : goal.returns-clause-gathered
returns-clause-gathered c =
    let siblings = block_siblings _ _ c.args.sheet.accepted c.args.group c.args.b in
    values_listed _ _ c.args.sheet.accepted _ siblings _ _ _ _ _ (opened (goal.at.returns-clause-gathered c).After-open_members-k) c.mask_items.ensures
    c.list_marks.ensures.0 c.list_marks.ensures.2
    (omega (arith, c.list_marks.ensures.1, c.list_marks.auto.list, c.open_members-k.auto.items, c.append_chain-m.auto.items, c.requires.b_le_n.3))
