use mathlib.Core.Path.{ap, ◌∙◌}
use Rattle.reach.specs.FoundPlace.{found_place}
use Rattle.following.proofs.Places.{row_fits, none_wrong, place_early}
use Rattle.following.proofs.early_place.Goals as goal

pub first_early-requires-clause-by_index : goal.first_early-requires-clause-by_index
first_early-requires-clause-by_index c = row_fits _ _ c.args.sheet.accepted _ c.mark_values.ensures _ c.requires.rows.0

pub first_early-requires-clause-order_value : goal.first_early-requires-clause-order_value
first_early-requires-clause-order_value c = none_wrong _ _ c.args.sheet.accepted _ c.mark_values.ensures c.args.order.now c.requires.listed

pub returns : goal.returns
returns c =
    let p = c.requires in
    c.first_early.ensures ∙ ap found_place (place_early _ _ c.args.sheet.accepted _ c.mark_values.ensures c.args.order.now p.listed _ p.rows.1)
