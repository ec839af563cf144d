use Prim.Native.Nat.{◌*◌}
use native.Mathlib.Omega.{arith}
use Rattle.marks.specs.Walk.{word_left}
use Rattle.marks.proofs.Bits.{places_step}
use Rattle.marks.proofs.walk.WordMarks.take_first.Goals as goal

pub returns : goal.returns
unfolding word_left
returns c = places_step 64 (64 * c.args.self.now.index) c.args.self.now.word (omega arith) (omega arith)
