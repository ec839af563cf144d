-- Row 1, test by test.
use mathlib.Core.Path.{◌≡◌, ◌∙◌, sym, ap}
use Prim.Native.Nat.{◌-◌, ◌<◌}
use native.Mathlib.Omega.{arith}
use lib.ListN.{length, get_or}
use Rattle.std.specs.Prelude.{Some}
use Rattle.std.proofs.lemmas.Option.{slice_get_within, gets}
use Rattle.std.proofs.lemmas.Grind.{common_steps}
use Rattle.lines.proofs.Heads.{text_empty, text_long, text_open, text_bad_lem, text_right}
use Rattle.lines.proofs.text_lines.Goals as goal

pub returns-in_default : goal.returns-in_default
returns-in_default c =
    let s = c.args.text.now in
    let h : length s < 1 = grind (arith, common_steps, gets, c.in_default.ensures.value) in
    text_empty s h

pub returns-then-last-ne10 : goal.returns-then-last-ne10
returns-then-last-ne10 c =
    let s = c.args.text.now in
    let h : get_or s (length s - 1) 0 ≡ c.in-Some.last.now = grind (arith, common_steps, gets, c.in-Some.ensures.value) in
    text_open s (λ e. c.if-last-ne10.true (sym h ∙ e))

pub returns-then-text-gt-SIZE_LIMIT : goal.returns-then-text-gt-SIZE_LIMIT
returns-then-text-gt-SIZE_LIMIT c = text_long c.args.text.now c.if-text-gt-SIZE_LIMIT.true

pub returns-then-counts-ne0 : goal.returns-then-counts-ne0
returns-then-counts-ne0 c = text_bad_lem c.args.text.now (λ z. c.if-counts-ne0.true (c.survey-counts.ensures.0 ∙ z))

pub returns : goal.returns
returns c =
    let s = c.args.text.now in
    let h : get_or s (length s - 1) 0 ≡ c.in-Some.last.now = grind (arith, common_steps, gets, c.in-Some.ensures.value) in
    let some : length s - 1 < length s = slice_get_within s (length s - 1) c.in-Some.last.now (sym c.in-Some.ensures.value) in
    ap Some c.survey-counts.ensures.1
    ∙ text_right s (omega arith) (omega arith) (h ∙ c.if-last-ne10.false) (sym c.survey-counts.ensures.0 ∙ c.if-counts-ne0.false)
