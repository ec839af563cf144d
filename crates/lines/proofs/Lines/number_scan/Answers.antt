-- The cell holds the number, by its sign.
use mathlib.Core.Path.{ap, sym, ◌∙◌}
use native.Mathlib.Omega.{arith}
use mir.Facts.{to_z-of_z}
use mir.Syntax.{w64}
use borrow.Author.Rules.{sfits_of}
use borrow.Author.Tests.{ne_eqb}
use Rattle.std.specs.Prelude.{Some}
use Rattle.numbers.proofs.Decimals.{number_negative, number_plain}
use Rattle.lines.proofs.Lines.number_scan.Goals as goal

pub returns-then-self-from-eq45 : goal.returns-then-self-from-eq45
returns-then-self-from-eq45 c =
    let args = c.args in
    let d = c.in_ok-d.d in
    let f = c.in_ok-d.ensures in (
      record { wide = omega (arith, f.1.wide); inside = f.1.inside; by = f.1.by },
      rw (
        sym (number_negative args.from d.end args.self.text.now (omega (arith, f.1.wide)) (omega (arith, f.1.inside)) c.if-self-from-eq45.true),
        f.2,
        ne_eqb d.value 0 c.if-d-eq0.false,
      ) (ap Some (sym (to_z-of_z {w = w64} (sfits_of {w = w64} {z = c.with_sign.result} c.with_sign.type_inv) ∙ c.with_sign.ensures))),
    )

pub returns : goal.returns
returns c =
    let args = c.args in
    let d = c.in_ok-d-2.d in
    let f = c.in_ok-d-2.ensures in (
      f.1,
      rw (sym (number_plain args.from d.end args.self.text.now f.1.wide (omega (arith, f.1.inside)) c.if-self-from-eq45.false), f.2)
          (ap Some (sym (to_z-of_z {w = w64} (sfits_of {w = w64} {z = c.with_sign-2.result} c.with_sign-2.type_inv) ∙ c.with_sign-2.ensures))),
    )
