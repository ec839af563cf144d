use mathlib.Core.Path.{sym, ◌∙◌}
use Prim.Native.Nat.{◌*◌}
use native.Mathlib.Omega.{arith}
use borrow.Author.Tests.{le-ltb}
use Rattle.marks.proofs.Squares.{outside}
use Rattle.following.proofs.holds.Goals as goal

pub returns-else-q-w : goal.returns-else-q-w
returns-else-q-w c = le-ltb c.args.q (64 * c.args.w) c.if-q-w.false ∙ sym (outside c.args.left.now c.args.w 0 c.args.q (omega (arith, c.if-q-w.false)))
