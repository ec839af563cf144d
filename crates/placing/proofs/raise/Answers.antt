use mathlib.Core.Path.{◌≡◌, sym, ap}
use Prim.Native.Nat.{ℕ, ◌*◌}
use native.Mathlib.Omega.{arith}
use Rattle.marks.specs.Walk.{word_left}
use Rattle.placing.proofs.Counts.{below, below_none, below_all, below_turn, word_le, in_word}
use Rattle.placing.proofs.raise.Goals as goal

pub loop-j-init : goal.loop-j-init
loop-j-init c = λ p. omega (arith, below_none c.args.square.now c.args.mask.now c.args.w c.args.q p)

pub raise_word-requires : goal.raise_word-requires
raise_word-requires c =
    let args = c.args in
    let word = c.common_marks_in in
    let own = word.ensures in (
      λ p h. omega (arith, c.requires.row.counted p (in_word args.square.now args.mask.now args.w args.q (sym c.if-not-has_mark.ensures) c.loop-j.j (word_left word.result) own p h)),
      λ p h. omega (
        arith,
        c.loop-j.invariant p,
        word_le args.square.now args.mask.now args.w args.q (sym c.if-not-has_mark.ensures) c.loop-j.j (word_left word.result) own p,
        c.requires.raisable p,
      ),
    )

pub loop-j-preserved : goal.loop-j-preserved
loop-j-preserved c =
    let args = c.args in
    let word = c.common_marks_in in
    λ p. omega (
      arith,
      c.loop-j.invariant p,
      c.raise_word.ensures p,
      below_turn args.square.now args.mask.now args.w args.q (sym c.if-not-has_mark.ensures) c.loop-j.j (word_left word.result) word.ensures p,
    )

pub returns : goal.returns
returns c =
    let args = c.args in
    let end : c.loop-j.j ≡ args.w = omega arith in
    λ p. omega (arith, c.loop-j.invariant p, ap (λ (j : ℕ). below args.square.now args.mask.now args.w args.q (64 * j) p) end, below_all args.square.now args.mask.now args.w args.q p)
