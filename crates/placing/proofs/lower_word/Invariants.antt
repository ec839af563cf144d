use Rattle.std.proofs.Common.{ℕ, ◌-◌, ◌≤◌}
use Rattle.order.specs.LabelLists.{count}
use Rattle.marks.specs.Walk.{word_left}
use Rattle.placing.specs.UnmetCounts.{LoweredBy}
use Rattle.placing.proofs.lower_word.Given as goal

abbrev pub invariant-loop-p : goal.invariant-loop-p
invariant-loop-p l =
    (goal.iterator-loop-p).can_next l.p-iterator × (goal.iterator-loop-p).is_finite l.p-iterator
    × ((x : ℕ) → count x (word_left l.p-iterator) ≤ count x (word_left l.fn.word))
    × LoweredBy (λ (x : ℕ). count x (word_left l.fn.word) - count x (word_left l.p-iterator)) l.initial.unmet l.initial.ready l.unmet l.ready l.w
