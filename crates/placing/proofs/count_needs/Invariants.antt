use Rattle.std.proofs.Common.{◌≡◌, ℕ, length, get_or, take}
use Rattle.order.specs.LabelLists.{◌∈◌, filter}
use Rattle.placing.specs.UnmetCounts.{needed}
use Rattle.placing.proofs.count_needs.Given as goal

abbrev pub invariant-loop-x : goal.invariant-loop-x
invariant-loop-x l = (p : ℕ) → p ∈ l.items → get_or l.unmet p 0 ≡ length (filter (needed l.square l.mask l.w p) (take l.x-index l.items))
