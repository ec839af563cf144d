use Rattle.std.proofs.Common.{◌≡◌, ◌≤◌, take}
use Rattle.order.specs.LabelLists.{filter}
use Rattle.blocks.specs.Merged.{heads}
use Rattle.blocks.proofs.gather_leaders.Given as goal

abbrev pub invariant-loop-x : goal.invariant-loop-x
invariant-loop-x l = (l.m ≤ l.x-index) × (take l.m l.out ≡ filter (heads l.lead) (take l.x-index l.items))
