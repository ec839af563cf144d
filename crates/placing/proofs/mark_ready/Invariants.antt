use Rattle.std.proofs.Common.{◌≡◌, ◌↔◌, ℕ, true, get_or, take}
use Rattle.order.specs.LabelLists.{◌∈◌}
use Rattle.marks.specs.Marks.{mark}
use Rattle.placing.proofs.mark_ready.Given as goal

abbrev pub invariant-loop-x : goal.invariant-loop-x
invariant-loop-x l = (p : ℕ) → (mark l.ready l.w 0 p ≡ true) ↔ ((p ∈ take l.x-index l.items) × (get_or l.unmet p 0 ≡ 0))
