use Rattle.std.proofs.Common.{◌≡◌, ℕ, get_or, take}
use Rattle.order.specs.LabelLists.{◌∈◌}
use Rattle.placing.proofs.clear_cells.Given as goal

abbrev pub invariant-loop-x : goal.invariant-loop-x
invariant-loop-x l = (p : ℕ) → p ∈ take l.x-index l.items → get_or l.cells p 0 ≡ 0
