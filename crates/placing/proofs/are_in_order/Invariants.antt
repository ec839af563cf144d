use Rattle.std.proofs.Common.{take}
use Rattle.placing.specs.UnmetCounts.{needed, Ordered}
use Rattle.placing.proofs.are_in_order.Given as goal

abbrev pub invariant-loop-x : goal.invariant-loop-x
invariant-loop-x l = Ordered (needed l.square l.mask l.w) (take l.x-index l.items)
