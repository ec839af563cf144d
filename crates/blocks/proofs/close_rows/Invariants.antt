use Rattle.std.proofs.Common.{take}
use Rattle.blocks.specs.Merged.{ClosedRows}
use Rattle.blocks.proofs.close_rows.Given as goal

abbrev pub invariant-loop-x : goal.invariant-loop-x
invariant-loop-x l = ClosedRows (take l.x-index l.items) l.lead l.initial.square l.square l.followers l.w
