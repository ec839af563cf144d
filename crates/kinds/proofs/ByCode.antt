-- What a function of a code answers: what the code's kind has, or what no kind has.
use mathlib.Core.Path.{◌≡◌, refl, sym, ap, ◌∙◌}
use mathlib.Core.Bool.{false, not}
use native.Mathlib.Decide.{ℕ_discrete}
use Prim.Native.Nat.{ℕ}
use borrow.Author.Tests.{ne_eqb}
use lib.Dec.{eqb}
use Rattle.std.specs.Prelude.{Option, Some, None, MatchOption, is_some}
use Rattle.kinds.specs.declared.Kind.{Kind}
use Rattle.kinds.specs.Kinds.{KindColumns, kinds, is_kind, is_group_form, is_path_form, place_in, code_of, is_definition, is_expression, has_path, wanted_by, takes, clause_of, argument_place}
use Rattle.kinds.specs.declared.Clause.TheVariants as clause
use Rattle.kinds.specs.Coded.{own_code, kind_with}
use Rattle.kinds.specs.GivesValues.{gives_values}
use Rattle.kinds.proofs.Tests.{clash}
use Rattle.kinds.proofs.Rows.{by_rows}
use Rattle.kinds.proofs.Laws.{no_kind_lem}
use Rattle.kinds.proofs.Codes.{code_kind}
use Rattle.kinds.proofs.Enumerated.{with_code, with_some}

module _ {A : Type 0} (f : ℕ → A) (none answer : A) (c : ℕ) where
  pub by_code : (is_kind c ≡ false → f c ≡ none) → (q : Option Kind) → q ≡ kind_with c
      → MatchOption q (answer ≡ none) (λ k. answer ≡ f (own_code k)) → answer ≡ f c
  by_code h None e m = m ∙ sym (h (sym (with_some c) ∙ ap is_some (sym e)))
  by_code h (Some k) e m = m ∙ ap f (with_code c k (sym e))

-- ---- what no kind has

module _ (c : ℕ) (e : is_kind c ≡ false) where
  pub definition_none : is_definition c ≡ false
  unfolding is_definition
  definition_none = ap (λ (k : KindColumns). is_group_form k.fields.a) (no_kind_lem c e)

  pub expression_none : is_expression c ≡ false
  unfolding is_expression
  expression_none = rw e

  pub wanted_none : kind_with (wanted_by c) ≡ None
  unfolding wanted_by kind_with
  wanted_none = ap (λ (k : KindColumns). kind_with k.wanted) (no_kind_lem c e)

  pub path_none : has_path c ≡ false
  unfolding has_path
  path_none = ap (λ (k : KindColumns). is_path_form k.fields.name) (no_kind_lem c e)

  pub takes_none : takes c ≡ 0
  unfolding takes
  takes_none = ap (λ (k : KindColumns). k.takes) (no_kind_lem c e)

  pub clause_none : clause_of c ≡ clause.None
  unfolding clause_of
  clause_none = ap (λ (k : KindColumns). k.clause) (no_kind_lem c e)

  pub place_none : argument_place c ≡ 0
  place_none = ap place_in clause_none

  pub gives_none : gives_values c ≡ false
  unfolding gives_values
  gives_none = rw definition_none

-- ---- codes: 0 where no kind has one

pub wanted_zero : (c : ℕ) → is_kind (wanted_by c) ≡ false → wanted_by c ≡ 0
unfolding wanted_by is_kind kinds
wanted_zero c e = go (ℕ_discrete (wanted_by c) 0)
  where
    go : Dec (wanted_by c ≡ 0) → wanted_by c ≡ 0
    go (yes q) = q
    go (no h) =
        clash (sym (by_rows (λ k. is_kind k.wanted) (λ k. not (eqb k.wanted 0)) refl refl c ∙ ap not (ne_eqb (wanted_by c) 0 h)) ∙ e)

pub letter_zero : (letter : ℕ) → is_kind (code_of letter) ≡ false → code_of letter ≡ 0
letter_zero letter e = go (ℕ_discrete (code_of letter) 0)
  where
    go : Dec (code_of letter ≡ 0) → code_of letter ≡ 0
    go (yes q) = q
    go (no h) = clash (sym (code_kind letter h) ∙ e)
