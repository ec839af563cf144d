use Rattle.std.proofs.Common.{arith}
use Rattle.groups.proofs.Orders.{fits, items_few, placed_needs}
use Rattle.groups.proofs.place_items.Goals as goal

pub place-requires-clause-fits : goal.place-requires-clause-fits
place-requires-clause-fits c =
    let p = c.requires in
    fits _ _ c.args.sheet.accepted _ p.items _ _ c.mask_items.ensures _ p.n_in_bounds.0 p.scratch.counts (omega (arith, p.scratch.masks, c.mask_items.auto.mask))

pub place-requires-clause-w_in_bounds : goal.place-requires-clause-w_in_bounds
place-requires-clause-w_in_bounds c =
    let p = c.requires in
    (p.scratch.readies, omega (arith, items_few _ _ c.args.sheet.accepted c.args.items.now p.items, p.scratch.orders))

pub returns : goal.returns
returns c =
    let p = c.requires in
    placed_needs _ _ c.args.sheet.accepted _ p.items _ _ c.mask_items.ensures p.n_in_bounds.1 _ _ c.place.ensures
