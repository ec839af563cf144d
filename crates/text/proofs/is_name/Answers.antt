use mathlib.Core.Path.{◌≡◌, sym, ◌∙◌}
use mathlib.Core.Logic.{◌⊎◌, inl, inr}
use Prim.Native.Nat.{◌<◌}
use native.Mathlib.Omega.{arith}
use lib.ListN.{length}
use borrow.Author.Tests.{eqb-true, eqb-false}
use Rattle.std.proofs.Common.{rules, tests}
use Rattle.std.proofs.lemmas.Iterator.{YieldsList-from_slice}
use Rattle.std.proofs.lemmas.Iterator.Search.{all_from_yields_List}
use Rattle.std.specs.Char.{is_ascii_alphanumeric}
use Rattle.cells.specs.Limits.{name_limit}
use Rattle.text.specs.Bytes.{is_alphanumeric}
use Rattle.text.proofs.Names.{letter_is, alphanumeric_is, all_is, name_wide, name_letter, name_by}
use Rattle.text.proofs.is_name.Goals as goal
use Rattle.text.proofs.is_name.Goals.{then-is_empty-via-then-is_empty, then-is_empty-via-else-is_empty+then-field-gt-NAME_LIMIT}

pub returns-then-is_ascii_alphabetic : goal.returns-then-is_ascii_alphabetic
returns-then-is_ascii_alphabetic c =
    let f = c.args.field.now in
    let wide = eqb-false (length f) 0 (sym c.is_empty.ensures ∙ c.if-is_empty.false) in
    all_from_yields_List is_ascii_alphanumeric _ _ _ c.all.ensures.ran (YieldsList-from_slice f cc) (λ x b q k. search (rules, tests))
    ∙ all_is is_ascii_alphanumeric is_alphanumeric alphanumeric_is f
    ∙ sym (name_by f (omega (arith, wide)) (omega arith) (sym (letter_is _) ∙ sym c.is_ascii_alphabetic.ensures.value ∙ c.if-is_ascii_alphabetic.true))

pub returns-else-is_ascii_alphabetic : goal.returns-else-is_ascii_alphabetic
returns-else-is_ascii_alphabetic c =
    c.if-is_ascii_alphabetic.false ∙ sym (name_letter c.args.field.now (sym (letter_is _) ∙ sym c.is_ascii_alphabetic.ensures.value ∙ c.if-is_ascii_alphabetic.false))

pub returns-then-is_empty : goal.returns-then-is_empty
returns-then-is_empty c =
    let f = c.args.field.now in
    let why : (length f ≡ 0) ⊎ (name_limit < length f) = elim c.then-is_empty.branch [
      | then-is_empty-via-then-is_empty w ↦ inl (eqb-true (length f) 0 (sym c.is_empty.ensures ∙ w.if-is_empty.true))
      | then-is_empty-via-else-is_empty+then-field-gt-NAME_LIMIT w ↦ inr w.if-field-gt-NAME_LIMIT.true
    ] in
    sym (name_wide f why)
