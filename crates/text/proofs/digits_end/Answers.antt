-- What is left of the digits.
use mathlib.Core.Path.{◌≡◌, sym, ap, ◌∙◌}
use Prim.Native.Nat.{◌+◌}
use native.Mathlib.Omega.{arith}
use Rattle.numbers.specs.Decimal.{is_digit}
use Rattle.text.proofs.Scanned.{byte_behind, digits_turn, digits_done}
use Rattle.text.proofs.digits_end.Goals as goal

pub loop-size-preserved : goal.loop-size-preserved
loop-size-preserved c =
    let s = c.args.text.now in
    let i = c.args.from + c.loop-size.size in
    let e : c.args.from + (c.loop-size.size + 1) ≡ i + 1 = omega arith in
    let b = byte_behind s c.args.from c.loop-size.size c.loop-size.invariant.inside in
    rw (e, c.from.ensures, b)
    (digits_turn c.args.max s c.args.from i c.loop-size.value c.loop-size.invariant c.requires.1
    (ap is_digit (sym b) ∙ sym c.is_ascii_digit.ensures.value ∙ c.if-not-is_ascii_digit.false) (rw (c.from.ensures, b) at c.if-max-value.false))

pub returns-then-not-is_ascii_digit : goal.returns-then-not-is_ascii_digit
returns-then-not-is_ascii_digit c =
    (c.loop-size.invariant.most, digits_done c.args.max c.args.text.now c.args.from (c.args.from + c.loop-size.size) c.loop-size.value c.loop-size.invariant)
