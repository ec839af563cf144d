use native.Mathlib.Omega.{arith}
use Rattle.order.specs.Order.{is_member_of, members}
use Rattle.groups.specs.Members.{Gathered}
use Rattle.groups.proofs.Chains.{labels_few}
use Rattle.groups.proofs.Orders.{member_walk, member_items}
use Rattle.splitting.proofs.Ordering.{find_asks, find_room, find_gives}
use Rattle.splitting.proofs.find_leads.Given.{Over}
use Rattle.splitting.proofs.find_leads.Goals as goal
use Rattle.splitting.proofs.find_leads.Goals.{After-append_chain-m}

gathered : (g : Over) → (c : After-append_chain-m g) → Gathered (members c.args.sheet.cells.now c.args.sheet.n c.args.group) c.append_chain-m.new.items c.append_chain-m.result
gathered g c = c.append_chain-m.ensures (members c.args.sheet.cells.now c.args.sheet.n c.args.group) c.requires.chain

pub append_chain-m-requires-clause-walkable_chain : goal.append_chain-m-requires-clause-walkable_chain
append_chain-m-requires-clause-walkable_chain g c =
    let p = c.requires in
    member_walk _ _ c.args.sheet.accepted c.args.group _ _ _ p.chain (omega (arith, p.group_le_n.2, labels_few (is_member_of c.args.sheet.cells.now c.args.group) c.args.sheet.n))

pub mask_items-requires : goal.mask_items-requires
mask_items-requires g c =
    ((member_items _ _ c.args.sheet.accepted _ _ _ (gathered g (goal.at.mask_items-requires g c).After-append_chain-m)).defs, omega (arith, c.requires.room.words))

pub find_blocks-requires-clause-in_rows : goal.find_blocks-requires-clause-in_rows
find_blocks-requires-clause-in_rows g c =
    let p = c.requires in
    find_asks _ _ c.args.sheet.accepted _ _ _ (gathered g (goal.at.find_blocks-requires-clause-in_rows g c).After-append_chain-m) _ _ p.n_in_bounds.0
    (omega (arith, p.room.words, c.mask_items.auto.mask)) c.mask_items.ensures

pub find_blocks-requires-clause-room : goal.find_blocks-requires-clause-room
find_blocks-requires-clause-room g c =
    let p = c.requires in
    let s = c.args.scratch.now.sizes in
    let l = c.args.search.now.labels in
    find_room _ _ c.args.sheet.accepted _ _ _ p.room _ _ _ _ _ _ _ s.3 c.args.search.now.rows l.1 s.0 s.1 l.2 l.3 _ _
    (gathered g (goal.at.find_blocks-requires-clause-room g c).After-append_chain-m)

pub returns : goal.returns
returns g c =
    let p = c.requires in
    let k = gathered g (goal.at.returns g c).After-append_chain-m in
    (k.within, find_gives _ _ c.args.sheet.accepted _ _ _ k _ _ _ p.n_in_bounds.1 c.mask_items.ensures c.find_blocks.ensures)
