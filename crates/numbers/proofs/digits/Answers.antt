use mathlib.Core.Path.{◌≡◌, sym, ◌∙◌, ap}
use Prim.Native.Nat.{◌+◌, ◌<◌}
use mathlib.Core.List.{◌∷◌}
use native.Mathlib.Omega.{arith}
use native.Mathlib.Numerals.{add-one}
use lib.ListN.{length, get_or, drop, drop_of_length-le}
use lib.Seq.{drop-cons}
use Rattle.numbers.specs.Decimal.{digits_of}
use Rattle.numbers.proofs.Decimals.{digits_step, digits_bad, digits_over, digits_end}
use Rattle.numbers.proofs.digits.Goals as goal
use Rattle.numbers.proofs.digits.Goals.{In-loop-b}

-- in a turn, what is left to read begins with the byte at hand
turn : (c : In-loop-b) → (let s = c.args in
    digits_of s.max 0 s.field.now ≡ digits_of s.max c.loop-b.v (get_or s.field.now c.loop-b.b-index 0 ∷ drop (c.loop-b.b-index + 1) s.field.now))
turn c =
    let h : c.loop-b.b-index < length c.args.field.now = omega arith in
    c.loop-b.invariant.1 ∙ ap (digits_of c.args.max c.loop-b.v) (rw (add-one, drop-cons c.args.field.now c.loop-b.b-index 0))

pub returns-then-not-is_ascii_digit : goal.returns-then-not-is_ascii_digit
returns-then-not-is_ascii_digit c =
    sym (turn (goal.at.returns-then-not-is_ascii_digit c).In-loop-b ∙ digits_bad _ _ _ _ (sym c.is_ascii_digit.ensures.value ∙ c.if-not-is_ascii_digit.true))

pub returns-then-max-v : goal.returns-then-max-v
returns-then-max-v c =
    sym (turn (goal.at.returns-then-max-v c).In-loop-b
    ∙ digits_step _ _ _ _ (sym c.is_ascii_digit.ensures.value ∙ c.if-not-is_ascii_digit.false) ∙ digits_over _ _ _ (rw c.from.ensures at c.if-max-v.true))

pub loop-b-preserved : goal.loop-b-preserved
loop-b-preserved c = (
  c.if-max-v.false,
  rw c.from.ensures
      (turn (goal.at.loop-b-preserved c).In-loop-b ∙ digits_step _ _ _ _ (sym c.is_ascii_digit.ensures.value ∙ c.if-not-is_ascii_digit.false)),
)

pub returns : goal.returns
returns c =
    let a = c.args in
    sym (c.loop-b.invariant.1 ∙ ap (digits_of a.max c.loop-b.v) (drop_of_length-le a.field.now (omega arith)) ∙ digits_end a.max c.loop-b.v c.loop-b.invariant.0)
