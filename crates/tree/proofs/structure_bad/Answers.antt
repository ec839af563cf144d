-- The row, by its test.
use Rattle.std.proofs.lemmas.Grind.{common_steps}
use native.Mathlib.Omega.{arith}
use Rattle.tree.specs.Tree.{structure_bad}
use Rattle.tree.proofs.structure_bad.Goals as goal

pub returns-then-structure_right : goal.returns-then-structure_right
unfolding structure_bad
returns-then-structure_right c = grind (arith, common_steps)

pub returns-else-structure_right : goal.returns-else-structure_right
unfolding structure_bad
returns-else-structure_right c = grind (arith, common_steps)
