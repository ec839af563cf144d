use Rattle.order.specs.LabelLists.{◌∈◌}
use Rattle.order.proofs.Tests.{one_in}
use Rattle.placing.proofs.Lists.{in_at}
use Rattle.placing.proofs.Counts.{need_item, row_of, count_room, count_turn}
use Rattle.placing.proofs.count_needs.Goals as goal

pub raise-requires-clause-row : goal.raise-requires-clause-row
raise-requires-clause-row c =
    let m : c.from.result ∈ c.args.items.now = rw c.from.ensures (in_at c.args.items.now c.loop-x.x-index c.loop-x-test.true) in
    row_of _ _ _ _ _ _ c.loop-x.auto.unmet c.requires.fits _ m

pub raise-requires-clause-raisable : goal.raise-requires-clause-raisable
raise-requires-clause-raisable c =
    let f = c.requires.fits in
    λ p i. count_room _ _ _ _ c.loop-x.x-index _ c.from.ensures c.loop-x-test.true c.loop-x.unmet c.loop-x.invariant f.few p (need_item _ _ _ _ _ _ f p (one_in _ i))

pub loop-x-preserved : goal.loop-x-preserved
loop-x-preserved c = count_turn _ _ _ _ c.loop-x.x-index _ c.from.ensures c.loop-x-test.true c.loop-x.unmet c.loop-x.invariant c.raise.new.unmet c.raise.ensures
