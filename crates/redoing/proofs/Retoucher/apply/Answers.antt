use Rattle.redoing.proofs.Applied.{steps_standing, next_row, applying_next}
use Rattle.redoing.proofs.Retoucher.apply.Goals as goal

pub tally-change-requires-clause-by_index : goal.tally-change-requires-clause-by_index
tally-change-requires-clause-by_index c = steps_standing _ _ _ _ _ c.requires.standing.0

pub retouch_pair-change-requires-clause-row : goal.retouch_pair-change-requires-clause-row
retouch_pair-change-requires-clause-row c = next_row _ _ _ _ _ _ _ c.loop-k.invariant c.loop-k-test.true _ c.requires.marked

pub loop-k-preserved : goal.loop-k-preserved
loop-k-preserved c =
    let pre = c.requires in
    applying_next _ _ _ _ _ _ _ c.loop-k.invariant c.loop-k-test.true pre.standing.3 pre.standing.1 c.retouch_pair-change.ensures
