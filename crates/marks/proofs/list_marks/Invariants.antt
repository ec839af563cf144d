use Rattle.std.proofs.Common.{◌≡◌, ◌&&◌, ℕ, ◌+◌, ◌*◌, ◌≤◌, ◌++◌, length, take}
use Rattle.order.specs.LabelLists.{one, count}
use Rattle.marks.specs.Marks.{mark, Rising}
use Rattle.marks.specs.Walk.{marks_left}
use Rattle.marks.proofs.list_marks.Given as goal

abbrev pub invariant-loop-q : goal.invariant-loop-q
invariant-loop-q l =
    (goal.iterator-loop-q).can_next l.q-iterator × (goal.iterator-loop-q).is_finite l.q-iterator
    × (l.m + length (marks_left l.q-iterator) ≤ 64 * l.w)
    × ((q : ℕ) → count q (take l.m l.list ++ marks_left l.q-iterator) ≡ one (mark l.s l.w l.p q && mark l.mask l.w 0 q))
    × Rising (take l.m l.list ++ marks_left l.q-iterator)
