-- What is left of the letters and digits, after the letter that they begin with.
use mathlib.Core.Path.{◌≡◌, sym, ◌∙◌}
use Prim.Native.Nat.{◌+◌}
use native.Mathlib.Omega.{arith}
use Rattle.text.proofs.Names.{letter_is, alphanumeric_is}
use Rattle.text.proofs.Scanned.{letters_first, letters_turn, letters_done, name_to}
use Rattle.text.proofs.next_name.Goals as goal

pub loop-size-init : goal.loop-size-init
loop-size-init c =
    letters_first c.args.text.now c.args.from c.requires.0 c.requires.1 (sym (letter_is _) ∙ sym c.is_ascii_alphabetic.ensures.value ∙ c.if-not-is_ascii_alphabetic.false)

pub loop-size-preserved : goal.loop-size-preserved
loop-size-preserved c =
    let i = c.args.from + c.loop-size.size in
    let e : c.args.from + (c.loop-size.size + 1) ≡ i + 1 = omega arith in
    rw e (letters_turn c.args.text.now c.args.from i c.loop-size.invariant c.requires.1
    (sym (alphanumeric_is _) ∙ sym c.is_ascii_alphanumeric.ensures.value ∙ c.if-not-is_ascii_alphanumeric.false))

pub returns-then-not-is_ascii_alphanumeric : goal.returns-then-not-is_ascii_alphanumeric
returns-then-not-is_ascii_alphanumeric c =
    name_to c.args.text.now c.args.from (c.args.from + c.loop-size.size) c.requires.0
    (sym (letter_is _) ∙ sym c.is_ascii_alphabetic.ensures.value ∙ c.if-not-is_ascii_alphabetic.false)
    (letters_done c.args.text.now c.args.from (c.args.from + c.loop-size.size) c.loop-size.invariant
    (sym (alphanumeric_is _) ∙ sym c.is_ascii_alphanumeric.ensures.value ∙ c.if-not-is_ascii_alphanumeric.true))
    (omega arith)
