use Rattle.figures.proofs.Loop.{turn}
use Rattle.figures.proofs.evaluate_down.Goals as goal

pub loop-i-preserved : goal.loop-i-preserved
loop-i-preserved c = turn _ _ _ _ c.loop-i.invariant c.loop-i-test.true c.nat_at-label.ensures c.evaluate_into.ensures
