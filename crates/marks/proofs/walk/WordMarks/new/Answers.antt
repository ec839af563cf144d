use mathlib.Core.Path.{refl}
use Rattle.marks.specs.Walk.{word_left}
use Rattle.marks.proofs.walk.WordMarks.new.Goals as goal

pub returns : goal.returns
unfolding word_left
returns c = refl
