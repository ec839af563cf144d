use mathlib.Core.Path.{◌∙◌}
use Rattle.following.proofs.Places.{place_wrong, place_past, place_full}
use Rattle.following.proofs.listed_place.Goals as goal

pub returns-in-Some : goal.returns-in-Some
returns-in-Some c = place_wrong _ _ c.args.sheet.accepted _ c.mark_values.ensures c.args.order.now _ c.first_wrong.ensures.value _ c.in-Some.is

pub returns-in_err-first_mark : goal.returns-in_err-first_mark
returns-in_err-first_mark c =
    let z = c.in_default.is in
    c.from_residual.ensures
    ∙ place_full _ _ c.args.sheet.accepted _ c.mark_values.ensures c.args.order.now _ c.first_wrong.ensures.value z
    _ (c.first_wrong.ensures.left z) c.in_err-first_mark.ensures

pub returns : goal.returns
returns c =
    let z = c.in_default.is in
    place_past _ _ c.args.sheet.accepted _ c.mark_values.ensures c.args.order.now _ c.first_wrong.ensures.value z
    _ (c.first_wrong.ensures.left z) _ c.in_ok-first_mark.ensures
