use Rattle.std.proofs.Common.{◌+◌}
use Rattle.blocks.specs.Search.{Smallest}
use Rattle.blocks.proofs.smallest.Given as goal

abbrev pub invariant-loop-x : goal.invariant-loop-x
invariant-loop-x l = Smallest l.stack l.s (l.s + 1 + l.x-index) l.least
