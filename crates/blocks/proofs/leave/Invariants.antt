use Rattle.std.proofs.Common.{◌+◌}
use Rattle.blocks.specs.Search.{HasLeft}
use Rattle.blocks.proofs.leave.Given as goal

abbrev pub invariant-loop-x : goal.invariant-loop-x
invariant-loop-x l = HasLeft l.stack l.initial.stacked l.stacked l.initial.lead l.lead l.w l.s (l.s + l.x-index) l.least
