use Rattle.std.proofs.Common.{◌≡◌, ◌⊎◌, ◌&&◌, true, ℕ, ◌≤◌, get_or}
use Rattle.order.specs.LabelLists.{one, count}
use Rattle.marks.specs.Marks.{mark}
use Rattle.marks.specs.Walk.{marks_left}
use Rattle.blocks.proofs.meet.Given as goal

abbrev pub invariant-loop-x : goal.invariant-loop-x
invariant-loop-x l =
    (goal.iterator-loop-x).can_next l.x-iterator × (goal.iterator-loop-x).is_finite l.x-iterator
    × ((y : ℕ) → count y (marks_left l.x-iterator) ≤ one (mark l.square l.w l.q y && mark l.stacked l.w 0 y))
    × ((y : ℕ) → mark l.square l.w l.q y ≡ true → mark l.stacked l.w 0 y ≡ true → count y (marks_left l.x-iterator) ≡ 0 → l.low ≤ get_or l.place y 0)
    × ((l.low ≡ l.n) ⊎ ((y : ℕ) × (mark l.square l.w l.q y ≡ true) × (mark l.stacked l.w 0 y ≡ true) × (get_or l.place y 0 ≡ l.low)))
