use native.Mathlib.Omega.{arith}
use Rattle.numbers.proofs.Numerals.{digits_none, digits_last}
use Rattle.printing.proofs.Writing.{puts_nothing, puts_then}
use Rattle.printing.proofs.Writer.+put_digits.Goals as goal

pub returns-then-n-eq0 : goal.returns-then-n-eq0
returns-then-n-eq0 t c = rw (c.if-n-eq0.true, digits_none) (puts_nothing c.args.self.now (omega arith) (omega arith))

pub returns : goal.returns
returns t c = rw (digits_last c.args.n (omega arith)) (puts_then c.put_digits.ensures c.put.ensures)
