use Rattle.placing.specs.UnmetCounts.{needed}
use Rattle.placing.proofs.Going.{Going}
use Rattle.placing.proofs.place_counted.Given as goal

abbrev pub invariant-loop-k : goal.invariant-loop-k
invariant-loop-k l = Going (needed l.square l.mask l.w) l.items l.unmet l.ready l.order l.w l.k
