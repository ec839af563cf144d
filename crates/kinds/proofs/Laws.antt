-- What the table says of each kind.
use mathlib.Core.Path.{◌≡◌, refl, sym, ◌∙◌}
use mathlib.Core.Logic.{◌⊎◌, inl, inr}
use mathlib.Core.Bool.{Bool, true, false, not, ◌&&◌, and-false}
use mathlib.Core.List.{List, [], ◌∷◌}
use Prim.Native.Nat.{ℕ, zero, suc, ◌≤◌}
use native.Mathlib.Omega.{arith}
use borrow.Author.Tests.{leb-true, leb-false, le-leb, not-true}
use lib.Dec.{leb, leb-suc-zero, leb-suc-suc}
use lib.ListN.{length, get_or, get_or-eq_default}
use Rattle.kinds.specs.Kinds.{KindColumns, kinds, no_kind, kind_at, fields_at, is_kind, is_group_form, is_operand_form, is_path_form, is_definition, is_expression, has_body, has_path, wanted_by}
use Rattle.kinds.proofs.Tests.{clash, and_left, and_right}
use Rattle.kinds.proofs.Rows.{by_rule}

-- ---- tests of a row

abbrev pub named : KindColumns → Bool
named k = leb 1 k.fields.letter

abbrev pub defines : KindColumns → Bool
defines k = is_group_form k.fields.a

abbrev pub expresses : KindColumns → Bool
expresses k = named k && not (defines k)

abbrev bodied : KindColumns → Bool
bodied k = defines k && is_operand_form k.fields.b

abbrev pub leads : KindColumns → Bool
leads k = is_path_form k.fields.name

-- ---- codes

all_named : List KindColumns → Bool
all_named [] = true
all_named (k ∷ ks) = named k && all_named ks

named_rows : (ks : List KindColumns) (i : ℕ) → all_named ks ≡ true → leb (suc i) (length ks) ≡ named (get_or ks i no_kind)
unfolding all_named
named_rows [] i e = leb-suc-zero i
named_rows (k ∷ ks) zero e = le-leb 1 (suc (length ks)) (omega arith) ∙ sym (and_left (named k) (all_named ks) e)
named_rows (k ∷ ks) (suc i) e = leb-suc-suc (suc i) (length ks) ∙ named_rows ks i (and_right (named k) (all_named ks) e)

-- a code of the table is one whose row has a letter
is_kind_lem : (c : ℕ) → is_kind c ≡ named (kind_at c)
unfolding is_kind kind_at kinds all_named
is_kind_lem zero = refl
is_kind_lem (suc k) = rw (le-leb 1 (suc k) (omega arith)) (named_rows kinds k refl)

pub kinds_length : length kinds ≡ 12
unfolding kinds
kinds_length = refl

-- a code that no row has
pub no_kind_lem : (c : ℕ) → is_kind c ≡ false → kind_at c ≡ no_kind
unfolding is_kind kind_at
no_kind_lem zero e = refl
no_kind_lem (suc k) e =
    get_or-eq_default kinds no_kind (omega (arith, leb-false (suc k) (length kinds) (rw (le-leb 1 (suc k) (omega arith)) at e)))

module _ (c : ℕ) where
  pub kind_low : is_kind c ≡ true → 1 ≤ c
  unfolding is_kind
  kind_low e = leb-true 1 c (and_left (leb 1 c) (leb c (length kinds)) e)

  pub kind_high : is_kind c ≡ true → c ≤ length kinds
  unfolding is_kind
  kind_high e = leb-true c (length kinds) (and_right (leb 1 c) (leb c (length kinds)) e)

  -- the row of a code that is one has a letter
  pub kind_named : is_kind c ≡ true → named (kind_at c) ≡ true
  kind_named e = sym (is_kind_lem c) ∙ e

  -- ---- definitions and expressions

  pub expression_row : is_expression c ≡ expresses (kind_at c)
  unfolding is_expression is_definition
  expression_row = rw (is_kind_lem c)

  pub definition_kind : is_definition c ≡ true → is_kind c ≡ true
  unfolding is_definition kinds
  definition_kind e = is_kind_lem c ∙ by_rule defines (λ i k. named k) refl refl c e

  pub expression_kind : is_expression c ≡ true → is_kind c ≡ true
  unfolding is_expression
  expression_kind e = and_left (is_kind c) (not (is_definition c)) e

  -- no kind is both,
  pub not_definition : is_expression c ≡ true → is_definition c ≡ false
  unfolding is_expression
  not_definition e = go (is_kind c) (is_definition c) e
    where
      go : (b g : Bool) → (b && not g) ≡ true → g ≡ false
      go true true f = clash (sym f)
      go true false f = refl
      go false g f = clash (sym f)

  pub not_expression : is_definition c ≡ true → is_expression c ≡ false
  unfolding is_expression
  not_expression e = rw e (and-false (is_kind c))

  -- and each is one of the two
  pub either : is_kind c ≡ true → (is_definition c ≡ true) ⊎ (is_expression c ≡ true)
  unfolding is_expression
  either e = rw e (go (is_definition c))
    where
      go : (g : Bool) → (g ≡ true) ⊎ (not g ≡ true)
      go true = inl refl
      go false = inr refl

  -- ---- bodies and paths

  pub body_definition : has_body c ≡ true → is_definition c ≡ true
  unfolding has_body
  body_definition e = and_left (is_definition c) (is_operand_form (fields_at c).b) e

  -- the fields a and c of a definition hold no part of it
  pub definition_a : is_definition c ≡ true → is_operand_form (fields_at c).a ≡ false
  unfolding is_definition kinds
  definition_a e = not-true (is_operand_form (fields_at c).a) (by_rule defines (λ i k. not (is_operand_form k.fields.a)) refl refl c e)

  pub definition_c : is_definition c ≡ true → is_operand_form (fields_at c).c ≡ false
  unfolding is_definition kinds
  definition_c e = not-true (is_operand_form (fields_at c).c) (by_rule defines (λ i k. not (is_operand_form k.fields.c)) refl refl c e)

  pub path_expression : has_path c ≡ true → is_expression c ≡ true
  unfolding has_path kinds
  path_expression e = expression_row ∙ by_rule leads (λ i k. expresses k) refl refl c e

  pub path_body : has_path c ≡ true → has_body (wanted_by c) ≡ true
  unfolding has_path has_body is_definition wanted_by kinds kind_at
  path_body e = by_rule leads (λ i k. bodied (kind_at k.wanted)) refl refl c e
