use mathlib.Core.Path.{◌≡◌, refl, sym, ap}
use Prim.Native.Nat.{ℕ, ◌*◌}
use native.Mathlib.Omega.{arith}
use Rattle.marks.specs.Walk.{word_left}
use Rattle.marks.proofs.Squares.{mark_in}
use Rattle.placing.proofs.Counts.{below, below_none, below_all, below_turn, word_le, in_word, lowered_none, lowered_on}
use Rattle.placing.proofs.lower.Goals as goal

pub loop-j-init : goal.loop-j-init
loop-j-init c = lowered_none _ (below_none c.args.square.now c.args.mask.now c.args.w c.args.q) _ _ _

pub lower_word-requires : goal.lower_word-requires
lower_word-requires c =
    let args = c.args in
    let word = c.common_marks_in-needing in
    let masked = in_word args.square.now args.mask.now args.w args.q (sym c.if-not-has_mark.ensures) c.loop-j.j (word_left word.result) word.ensures in
    let few = word_le args.square.now args.mask.now args.w args.q (sym c.if-not-has_mark.ensures) c.loop-j.j (word_left word.result) word.ensures in
    record {
      below = (λ p h. omega (arith, c.requires.row.counted p (masked p h)), λ p h. mark_in args.mask.now args.w 0 p (masked p h), omega (arith, c.requires.by_index.1));
      by_index = λ p. omega (arith, few p, c.loop-j.invariant.counts p, c.requires.by_index.0 p);
    }

pub loop-j-preserved : goal.loop-j-preserved
loop-j-preserved c =
    let args = c.args in
    let word = c.common_marks_in-needing in
    let turn = below_turn args.square.now args.mask.now args.w args.q (sym c.if-not-has_mark.ensures) c.loop-j.j (word_left word.result) word.ensures in
    lowered_on _ _ _ turn _ _ _ _ _ _ _ c.loop-j.invariant c.lower_word.ensures

pub returns : goal.returns
returns c =
    let args = c.args in
    let end : c.loop-j.j ≡ args.w = omega arith in
    lowered_on _ (λ (p : ℕ). 0) _
    (λ p. omega (
      arith,
      ap (λ (j : ℕ). below args.square.now args.mask.now args.w args.q (64 * j) p) end,
      below_all args.square.now args.mask.now args.w args.q p,
    ))
    _ _ _ _ _ _ _ c.loop-j.invariant (lowered_none _ (λ p. refl) _ _ _)
