-- Each answer by the tests that led to it.
use mathlib.Core.Path.{sym, ◌∙◌}
use Prim.Native.Nat.{◌+◌, ◌<◌}
use native.Mathlib.Omega.{arith}
use lib.ListN.{length}
use Rattle.std.proofs.lemmas.Option.{IfSome_then}
use Rattle.numbers.proofs.Decimals.{decimal_zero, decimal_plain}
use Rattle.text.proofs.Scanned.{inside_next}
use Rattle.text.proofs.scan_decimal.Goals as goal
use Rattle.text.proofs.scan_decimal.Goals.{Else-text-from-ne48}

pub returns-then-text-from-ne48 : goal.returns-then-text-from-ne48
returns-then-text-from-ne48 c =
    let args = c.args in
    IfSome_then c.scan_digits.result c.scan_digits.ensures (λ d f. (
      f.0,
      f.1,
      sym (decimal_plain args.from d.end args.text.now f.1.wide (omega (arith, f.1.inside)) args.max c.if-text-from-ne48.true) ∙ f.2,
    ))

-- a digit does not end the text
next : (c : Else-text-from-ne48) →
    let args = c.args in
    args.from + 1 < length args.text.now
next c =
    inside_next c.args.text.now c.args.from c.requires.0 c.requires.1 (λ q. omega (arith, c.if-text-from-ne48.false, q))

pub returns : goal.returns
returns c =
    let args = c.args in
    let i = next (goal.at.returns c).Else-text-from-ne48 in (
      omega arith,
      record { wide = omega arith; inside = i; by = c.if-text-from.false },
      sym (decimal_zero args.from (args.from + 1) args.text.now (omega arith) (omega (arith, i)) args.max c.if-text-from-ne48.false (omega arith)),
    )
