use mathlib.Core.Path.{◌∙◌}
use Rattle.marks.proofs.Squares.{listing_end}
use Rattle.marks.proofs.common_marks.Goals as goal

pub returns-clause-counted : goal.returns-clause-counted
returns-clause-counted c = λ q. c.common_marks_within.ensures.counted q ∙ listing_end _ _ _ _ q
