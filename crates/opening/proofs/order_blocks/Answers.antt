use Rattle.std.proofs.Common.{rules}
use Prim.Native.Nat.{◌≤◌, ◌<◌}
use native.Mathlib.Omega.{arith}
use lib.ListN.{length}
use Rattle.splitting.proofs.Ordering.{mergeable, leading, few_items, heads_items, heads_fit, heads_placed, rows_after}
use Rattle.opening.proofs.order_blocks.Given.{Over}
use Rattle.opening.proofs.order_blocks.Goals as goal
use Rattle.opening.proofs.order_blocks.Goals.{Start}

leads : (g : Over) → (c : Start g) → c.args.sheet.n < length c.args.search.now.lead
leads g c = omega (arith, c.requires.room.labels, c.args.search.now.labels.3)

few : (g : Over) → (c : Start g) → length c.args.items.now ≤ c.args.sheet.n
few g c = few_items c.args.sheet.cells.now c.args.sheet.n c.args.sheet.accepted c.args.group c.args.items.now c.args.search.now.lead c.requires.led_members

pub merge_blocks-requires-clause-mergeable : goal.merge_blocks-requires-clause-mergeable
merge_blocks-requires-clause-mergeable g c =
    let p = c.requires in
    mergeable _ _ c.args.sheet.accepted _ _ _ p.led_members _ (leads g (goal.at.merge_blocks-requires-clause-mergeable g c).Start) p.n_in_bounds.0

pub gather_leaders-k-requires : goal.gather_leaders-k-requires
gather_leaders-k-requires g c =
    let p = c.requires in
    let s = (goal.at.gather_leaders-k-requires g c).Start in
    (leading _ _ c.args.sheet.accepted _ _ _ p.led_members (leads g s), omega (arith, few g s, p.room.labels, c.args.search.now.labels.2))

pub shared_whole_as_front-leaders : goal.shared_whole_as_front-leaders
shared_whole_as_front-leaders g c =
    let p = c.requires in
    let f = few g (goal.at.shared_whole_as_front-leaders g c).Start in
    (omega (arith, f, p.room.labels, c.gather_leaders-k.ensures.within), search rules)

pub mask_items-requires : goal.mask_items-requires
mask_items-requires g c =
    let p = c.requires in
    ((heads_items _ _ c.args.sheet.accepted _ _ _ p.led_members _ _ c.gather_leaders-k.ensures).defs, omega (arith, p.room.words))

pub place-requires-clause-fits : goal.place-requires-clause-fits
place-requires-clause-fits g c =
    let p = c.requires in
    heads_fit _ _ c.args.sheet.accepted _ _ _ p.led_members _ _ c.gather_leaders-k.ensures _ _ _ c.mask_items.ensures
    (omega (arith, p.n_in_bounds.0, c.merge_blocks.auto.square)) (omega (arith, p.room.labels)) (omega (arith, p.room.words, c.mask_items.auto.mask))

pub returns-clause-gathered : goal.returns-clause-gathered
returns-clause-gathered g c =
    let p = c.requires in
    heads_placed _ _ c.args.sheet.accepted _ _ _ p.led_members _ _ _ c.merge_blocks.ensures p.n_in_bounds.1 _ _ _ _ _ c.gather_leaders-k.ensures c.mask_items.ensures
    (omega (arith, p.room.labels, c.place.auto.order)) c.place.ensures

pub returns-clause-need_rows_from : goal.returns-clause-need_rows_from
returns-clause-need_rows_from g c =
    let p = c.requires in
    rows_after _ _ c.args.sheet.accepted _ _ _ p.led_members _ _ _ c.merge_blocks.ensures p.n_in_bounds.1
