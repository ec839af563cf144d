use Rattle.std.proofs.Common.{take}
use Rattle.marks.specs.Marks.{Added}
use Rattle.blocks.specs.Merged.{LeadOf}
use Rattle.blocks.proofs.put_leads.Given as goal

abbrev pub invariant-loop-y : goal.invariant-loop-y
invariant-loop-y l = Added (LeadOf (take l.y-index l.list) l.lead) l.initial.square l.square l.w l.x
