-- No row before place i has the letter: what is left of the table gives its code.
use mathlib.Core.Path.{◌∙◌, refl, sym, ap}
use native.Mathlib.Omega.{arith}
use Rattle.kinds.specs.Kinds.{kinds, code_of}
use Rattle.kinds.specs.Coded.{kind_with}
use Rattle.kinds.proofs.Codes.{letter_hit, letter_miss, letter_none}
use Rattle.kinds.proofs.Kind.of_letter.Goals as goal

pub loop-i-init : goal.loop-i-init
unfolding code_of
loop-i-init c = refl

pub returns-then-row-letter : goal.returns-then-row-letter
unfolding kinds
returns-then-row-letter c =
    c.of_code.ensures ∙ ap kind_with (sym (letter_hit c.loop-i.i c.args.letter c.loop-i-test.true c.if-row-letter.true) ∙ c.loop-i.invariant)

pub loop-i-preserved : goal.loop-i-preserved
unfolding kinds
loop-i-preserved c = sym (letter_miss c.loop-i.i c.args.letter c.loop-i-test.true c.if-row-letter.false) ∙ c.loop-i.invariant

pub returns : goal.returns
unfolding kind_with
returns c = ap kind_with (sym (letter_none c.loop-i.i c.args.letter (omega (arith, c.loop-i-test.false))) ∙ c.loop-i.invariant)
