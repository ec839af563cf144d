use native.Mathlib.Omega.{arith}
use Rattle.marks.proofs.Squares.{first_found, marks_clear}
use Rattle.marks.proofs.first_mark.Goals as goal

pub returns-then-s-j-ne0 : goal.returns-then-s-j-ne0
returns-then-s-j-ne0 c = first_found c.args.s.now c.args.w c.loop-j.j c.loop-j.invariant (omega arith) (omega arith) (omega (arith, c.type_inv.s c.loop-j.j))

pub returns : goal.returns
returns c = marks_clear c.args.s.now c.args.w (λ i h. c.loop-j.invariant i (omega arith))
