use mathlib.Core.Path.{◌≡◌, sym, ap, ◌∙◌}
use mathlib.Core.List.{List, [], ◌++◌}
use Prim.Native.Nat.{ℕ, ◌+◌, ◌-◌, ◌*◌}
use native.Mathlib.Omega.{arith}
use lib.ListN.{length, take, drop}
use Rattle.marks.specs.Marks.{places, shared}
use Rattle.marks.specs.Walk.{word_left, marks_left}
use Rattle.marks.proofs.Bits.{places_none}
use Rattle.marks.proofs.Walking.{walk_on, walk_end}
use Rattle.marks.proofs.walk.CommonMarksIterator.next.Goals as goal

pub returns-then-self-eq0-clause-steps : goal.returns-then-self-eq0-clause-steps
unfolding marks_left word_left
returns-then-self-eq0-clause-steps c =
    let it = c.loop-self.self in
    let done : places 64 (64 * it.word.index) it.word.word ≡ [] = rw c.loop-self-test.true (places_none 64 (64 * it.word.index)) in
    let none : places 64 (64 * it.word.index) it.word.word ++ shared (64 * it.at) it.row.now it.mask.now ≡ [] = rw done (walk_end (64 * it.at) it.row.now it.mask.now c.if-self-eq0.true) in
    (sym c.loop-self.invariant ∙ none, none)

pub loop-self-preserved : goal.loop-self-preserved
unfolding marks_left word_left
loop-self-preserved c =
    let it = c.loop-self.self in
    let done : places 64 (64 * it.word.index) it.word.word ≡ [] = rw c.loop-self-test.true (places_none 64 (64 * it.word.index)) in
    let row = it.row.now in
    let mask = it.mask.now in
    ap (λ (l : List ℕ). l ++ shared (64 * (it.at + 1)) (take (length row - 1) (drop 1 row)) (take (length mask - 1) (drop 1 mask))) c.new-self.ensures
    ∙ walk_on it.at it.row.now it.mask.now (omega arith) it.even
    ∙ sym (ap (λ (l : List ℕ). l ++ shared (64 * it.at) it.row.now it.mask.now) done) ∙ c.loop-self.invariant

pub returns-clause-steps : goal.returns-clause-steps
unfolding marks_left
returns-clause-steps c =
    let it = c.loop-self.self in
    sym c.loop-self.invariant ∙ ap (λ (l : List ℕ). l ++ shared (64 * it.at) it.row.now it.mask.now) c.take_first.ensures

pub returns-clause-goes : goal.returns-clause-goes
returns-clause-goes c = record {
  on = λ _. (tt, tt, omega (arith, ap length (returns-clause-steps c)));
  keeps = tt;
  rests = λ _. tt;
}
