use Rattle.groups.proofs.Orders.{some_items, some_rows, some_placed}
use Rattle.groups.proofs.Opening.{block_owner}
use Rattle.groups.proofs.open_block.Goals as goal

pub place_items-requires-clause-items : goal.place_items-requires-clause-items
place_items-requires-clause-items c = some_items _ _ c.args.sheet.accepted _ _ _ c.gather_block-m.ensures.gathered

pub place_items-requires-clause-n_in_bounds : goal.place_items-requires-clause-n_in_bounds
place_items-requires-clause-n_in_bounds c =
    let a = c.args in
    let p = c.requires in
    (p.n_in_bounds.0, some_rows _ _ a.sheet.accepted _ _ _ c.gather_block-m.ensures.gathered a.group _ (block_owner _ _ a.sheet.accepted a.group a.b) p.n_in_bounds.1)

pub returns-clause-placed : goal.returns-clause-placed
returns-clause-placed c = some_placed _ _ c.args.sheet.accepted _ _ _ c.gather_block-m.ensures.gathered c.requires.no_cycle _ _ c.place_items.ensures
