use Rattle.std.proofs.Common.{take}
use Rattle.blocks.specs.Merged.{Joined}
use Rattle.blocks.proofs.join_rows.Given as goal

abbrev pub invariant-loop-x : goal.invariant-loop-x
invariant-loop-x l = Joined (take l.x-index l.items) l.lead l.initial.square l.square l.followers l.w
