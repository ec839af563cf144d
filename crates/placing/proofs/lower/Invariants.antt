use Rattle.std.proofs.Common.{◌*◌}
use Rattle.placing.specs.UnmetCounts.{LoweredBy}
use Rattle.placing.proofs.Counts.{below}
use Rattle.placing.proofs.lower.Given as goal

abbrev pub invariant-loop-j : goal.invariant-loop-j
invariant-loop-j l = LoweredBy (below l.square l.mask l.w l.q (64 * l.j)) l.initial.unmet l.initial.ready l.unmet l.ready l.w
