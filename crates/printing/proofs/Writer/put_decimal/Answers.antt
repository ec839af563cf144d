use native.Mathlib.Omega.{arith}
use Rattle.numbers.proofs.Numerals.{decimal_zero, decimal_digits}
use Rattle.printing.proofs.Writer.put_decimal.Goals as goal

pub returns-then-n-eq0 : goal.returns-then-n-eq0
returns-then-n-eq0 c = rw (c.if-n-eq0.true, decimal_zero) c.put.ensures

pub returns : goal.returns
returns c = rw (decimal_digits c.args.n (omega arith)) c.put_digits.ensures
