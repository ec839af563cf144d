use mathlib.Core.Path.{◌≡◌}
use mathlib.Core.List.{[]}
use Prim.Native.Nat.{◌*◌}
use Rattle.marks.specs.Marks.{places}
use Rattle.marks.specs.Walk.{word_left}
use Rattle.marks.proofs.Bits.{places_none}
use Rattle.marks.proofs.walk.WordMarksIterator.next.Goals as goal

pub returns-then-self-eq0-clause-steps : goal.returns-then-self-eq0-clause-steps
unfolding word_left
returns-then-self-eq0-clause-steps c =
    let it = c.args.self.now in
    let none : places 64 (64 * it.index) it.word ≡ [] = rw c.if-self-eq0.true (places_none 64 (64 * it.index)) in
    (none, none)
