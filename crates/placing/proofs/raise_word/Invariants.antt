use Rattle.std.proofs.Common.{◌≡◌, ℕ, ◌+◌, ◌≤◌, get_or}
use Rattle.order.specs.LabelLists.{count}
use Rattle.marks.specs.Walk.{word_left}
use Rattle.placing.proofs.raise_word.Given as goal

abbrev pub invariant-loop-p : goal.invariant-loop-p
invariant-loop-p l =
    (goal.iterator-loop-p).can_next l.p-iterator × (goal.iterator-loop-p).is_finite l.p-iterator
    × ((x : ℕ) → count x (word_left l.p-iterator) ≤ count x (word_left l.fn.word))
    × ((x : ℕ) → get_or l.unmet x 0 + count x (word_left l.p-iterator) ≡ get_or l.initial.unmet x 0 + count x (word_left l.fn.word))
