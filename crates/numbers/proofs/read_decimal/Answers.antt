use mathlib.Core.Path.{◌∙◌}
use Rattle.numbers.proofs.Decimals.{decimal_none, decimal_led, decimal_digits}
use Rattle.numbers.proofs.read_decimal.Goals as goal

pub returns-in_err-first : goal.returns-in_err-first
returns-in_err-first c = c.from_residual.ensures ∙ decimal_none c.args.max c.args.field.now c.in_err-first.ensures.value

pub returns-then-field-gt1 : goal.returns-then-field-gt1
returns-then-field-gt1 c = decimal_led c.args.max c.args.field.now (rw c.if-first-eq48.true at c.in_ok-first.ensures.value) c.if-field-gt1.true

pub returns : goal.returns
returns c = c.digits.ensures ∙ decimal_digits c.args.max c.args.field.now c.in_ok-first.ensures.value c.else-first-eq48.either
