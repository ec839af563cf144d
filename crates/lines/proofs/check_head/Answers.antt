-- Rows 1 to 3, test by test.
use mathlib.Core.Path.{◌≡◌, ◌∙◌, sym, ap}
use mathlib.Core.Bool.{true, false}
use Prim.Native.Nat.{◌-◌}
use native.Mathlib.Omega.{arith}
use Rattle.std.specs.Prelude.{Err, Ok}
use Rattle.lines.specs.Lines.{line, is_first_line}
use Rattle.lines.proofs.Heads.{none_counted, some_counted, text_lines, refusal_is, head_text, head_first, head_none, head_many, head_right}
use Rattle.lines.proofs.check_head.Goals as goal

pub returns-in_default : goal.returns-in_default
returns-in_default c =
    ap Err (refusal_is c.at.result _ 0 c.at.ensures) ∙ head_text c.args.text.now (none_counted c.args.text.now c.in_default.ensures)

pub first_line_right-requires : goal.first_line_right-requires
first_line_right-requires c = text_lines c.args.text.now (some_counted c.args.text.now c.in-Some.lines c.in-Some.ensures).0

pub returns-then-not-first_line_right : goal.returns-then-not-first_line_right
returns-then-not-first_line_right c =
    let s = c.args.text.now in
    let w = some_counted s c.in-Some.lines c.in-Some.ensures in
    let f : is_first_line (line s 0) ≡ false = sym c.if-not-first_line_right.ensures in
    ap Err (refusal_is c.at-then-not-first_line_right.result _ 0 c.at-then-not-first_line_right.ensures) ∙ head_first s w.0 f

pub returns-then-lines-lt2 : goal.returns-then-lines-lt2
returns-then-lines-lt2 c =
    let s = c.args.text.now in
    let w = some_counted s c.in-Some.lines c.in-Some.ensures in
    let f : is_first_line (line s 0) ≡ true = sym c.if-not-first_line_right.ensures in
    ap Err (refusal_is c.at-then-lines-lt2.result _ 0 c.at-then-lines-lt2.ensures) ∙ head_none s w.0 f (omega (arith, w.1))

pub returns-then-lines-gt-LINE_LIMIT : goal.returns-then-lines-gt-LINE_LIMIT
returns-then-lines-gt-LINE_LIMIT c =
    let s = c.args.text.now in
    let w = some_counted s c.in-Some.lines c.in-Some.ensures in
    let f : is_first_line (line s 0) ≡ true = sym c.if-not-first_line_right.ensures in
    ap Err (refusal_is c.at-then-lines-gt-LINE_LIMIT.result _ 0 c.at-then-lines-gt-LINE_LIMIT.ensures) ∙ head_many s w.0 f (omega (arith, w.1))

pub returns : goal.returns
returns c =
    let s = c.args.text.now in
    let w = some_counted s c.in-Some.lines c.in-Some.ensures in
    let f : is_first_line (line s 0) ≡ true = sym c.if-not-first_line_right.ensures in
    ap (λ m. Ok (m - 1)) w.1 ∙ head_right s w.0 f (omega (arith, w.1)) (omega (arith, w.1))
