use mathlib.Core.Path.{ap, ◌∙◌}
use mathlib.Core.List.{List, ◌++◌}
use Prim.Native.Nat.{ℕ, ◌*◌}
use Rattle.marks.specs.Marks.{shared}
use Rattle.marks.specs.Walk.{marks_left}
use Rattle.marks.proofs.Bits.{places_none}
use Rattle.marks.proofs.walk.CommonMarks.new.Goals as goal

pub returns : goal.returns
unfolding marks_left
returns c = ap (λ (l : List ℕ). l ++ shared (64 * 0) c.args.row.now c.args.mask.now) (c.new.ensures ∙ places_none 64 (64 * 0))
