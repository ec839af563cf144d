use Rattle.std.proofs.Common.{◌≡◌, length}
use Rattle.marks.specs.Walk.{marks_left}
use Rattle.marks.proofs.walk.CommonMarksIterator.next.Given as goal

abbrev pub invariant-loop-self : goal.invariant-loop-self
invariant-loop-self l = marks_left l.self ≡ marks_left l.initial.self

abbrev pub decreases-loop-self : goal.decreases-loop-self
decreases-loop-self l = length l.self.row.now
