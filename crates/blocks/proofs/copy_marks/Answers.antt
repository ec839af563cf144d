use native.Mathlib.Omega.{arith}
use Rattle.blocks.proofs.Parts.{marks_copied}
use Rattle.blocks.proofs.copy_marks.Goals as goal

pub returns : goal.returns
returns c = marks_copied _ _ _ (λ i h. c.loop-j.invariant i (omega (arith, h, c.loop-j-test.false, c.loop-j.auto.j-end)))
