use native.Mathlib.Omega.{arith}
use Rattle.placing.proofs.Counts.{need_item}
use Rattle.placing.proofs.Going.{going_none, unmet_of, going_step}
use Rattle.placing.proofs.place_counted.Goals as goal

pub returns-in_default : goal.returns-in_default
returns-in_default c = going_none _ _ c.requires.fits.in_rows.rising _ _ _ _ _ c.loop-k.invariant c.loop-k-test.true c.in_default.ensures

pub lower-requires-clause-by_index : goal.lower-requires-clause-by_index
lower-requires-clause-by_index c =
    let f = c.requires.fits in
    (unmet_of _ _ f.in_rows.rising _ _ _ _ _ c.loop-k.invariant _ c.in-Some.ensures (need_item _ _ _ _ _ _ f), omega (arith, c.drop_mark.auto.s, c.requires.w_in_bounds.0))

pub loop-k-preserved : goal.loop-k-preserved
loop-k-preserved c =
    let f = c.requires.fits in
    going_step _ _ f.in_rows.rising _ _ _ _ _ c.loop-k.invariant _ c.in-Some.ensures (need_item _ _ _ _ _ _ f) c.loop-k-test.true (omega (arith, c.requires.w_in_bounds.1)) _ _ _
    c.drop_mark.ensures c.lower.ensures
