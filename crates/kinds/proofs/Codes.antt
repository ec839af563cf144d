-- The code's table and tests by code, and the code of a letter.
use mathlib.Core.Path.{◌≡◌, refl, sym, ap, ◌∙◌}
use mathlib.Core.Bool.{Bool, true, false, cond, ◌||◌}
use mathlib.Core.List.{List, [], ◌∷◌, map}
use Prim.Native.Nat.{ℕ, zero, suc, ◌+◌, ◌-◌, ◌≤◌, ◌<◌}
use native.Mathlib.Numerals.{add-one}
use native.Mathlib.Omega.{arith}
use borrow.Author.Tests.{le-leb, eq-eqb, ne_eqb}
use lib.Dec.{leb, eqb}
use lib.ListN.{length, get_or, drop, drop_of_length-le, get_or-map}
use lib.Seq.{drop-cons}
use Rattle.kinds.specs.declared.Clause.{Clause}
use Rattle.kinds.specs.declared.Clause.TheVariants as clause
use Rattle.kinds.specs.declared.Form.{Form}
use Rattle.kinds.specs.declared.Form.TheVariants.{Missing, Name, Path, Group, Operand, Number}
use Rattle.kinds.specs.Kinds.{KindColumns, kinds, no_kind, kind_at, code_in, code_of, fields_at, is_kind, is_operand_form, is_definition, is_expression, has_body, clause_of, place_in}
use Rattle.kinds.specs.Kinds.{argument_place, takes, group_code, value_code, number_code}
use Rattle.kinds.proofs.Tests.{clash}
use Rattle.kinds.proofs.Rows.{every, implies, by_rule, by_rows}
use Rattle.kinds.proofs.Laws.{kinds_length, body_definition}
use Rattle.kinds.proofs.Clauses.{uses_of, expression_uses}

-- ---- the row of a code

pub kind_from : (c : ℕ) → 1 ≤ c → kind_at c ≡ get_or kinds (c - 1) no_kind
unfolding kind_at
kind_from zero h = absurd (omega arith)
kind_from (suc k) h = let z : suc k - 1 ≡ k = omega arith in rw z

pub fields_from_lem : (c : ℕ) → 1 ≤ c → get_or (map (λ k. k.fields) kinds) (c - 1) no_kind.fields ≡ fields_at c
fields_from_lem c h = get_or-map (λ k. k.fields) kinds (c - 1) no_kind ∙ sym (ap (λ (k : KindColumns). k.fields) (kind_from c h))

-- ---- the code of a letter

pub code_within : (c : ℕ) → 1 ≤ c → c ≤ 12 → is_kind c ≡ true
unfolding is_kind
code_within c h g = rw (le-leb 1 c h, le-leb c (length kinds) (omega (arith, kinds_length)))

-- the rows from place i on, the first of which has code i + 1
module _ (i letter : ℕ) (high : i < 12) where
  rows_from : drop i kinds ≡ get_or kinds i no_kind ∷ drop (suc i) kinds
  rows_from = drop-cons kinds i no_kind (omega (arith, kinds_length))

  letter_at : (get_or (map (λ k. k.fields) kinds) i no_kind.fields).letter ≡ (get_or kinds i no_kind).fields.letter
  letter_at = ap (λ f. f.letter) (get_or-map (λ k. k.fields) kinds i no_kind)

  pub letter_hit : (get_or (map (λ k. k.fields) kinds) i no_kind.fields).letter ≡ letter → code_in (drop i kinds) (i + 1) letter ≡ i + 1
  letter_hit e = rw (rows_from, eq-eqb (get_or kinds i no_kind).fields.letter letter (sym letter_at ∙ e))

  pub letter_miss : ((get_or (map (λ k. k.fields) kinds) i no_kind.fields).letter ≡ letter → ⊥)
      → code_in (drop i kinds) (i + 1) letter ≡ code_in (drop (i + 1) kinds) (i + 1 + 1) letter
  letter_miss e = rw (rows_from, ne_eqb (get_or kinds i no_kind).fields.letter letter (λ q. e (letter_at ∙ q)), add-one i, add-one (suc i))

pub letter_none : (i letter : ℕ) → 12 ≤ i → code_in (drop i kinds) (i + 1) letter ≡ 0
letter_none i letter h = let g : length kinds ≤ i = omega (arith, kinds_length) in rw (drop_of_length-le kinds g)

-- it is the code of a kind, or 0
code_bound : (ks : List KindColumns) (c letter : ℕ) → 0 < c → code_in ks c letter < c + length ks
code_bound [] c letter h = omega arith
code_bound (k ∷ ks) c letter h = go (eqb k.fields.letter letter) (code_bound ks (suc c) letter (omega arith))
  where
    go : (b : Bool) → code_in ks (suc c) letter < suc c + length ks → cond b c (code_in ks (suc c) letter) < c + suc (length ks)
    go true h = omega arith
    go false h = omega arith

pub code_kind : (letter : ℕ) → (code_of letter ≡ 0 → ⊥) → is_kind (code_of letter) ≡ true
unfolding code_of
code_kind letter h = code_within (code_of letter) (omega arith) (omega (arith, code_bound kinds 1 letter (omega arith), kinds_length))

-- ---- the last arm of a match on a code: its code is none of those of the arms before it

abbrev pub Other : List ℕ → ℕ → Type 0
Other [] c = Unit {0}
Other (x ∷ xs) c = Other xs c × (c ≡ x → ⊥)

abbrev among : List ℕ → ℕ → Bool
among [] c = false
among (x ∷ xs) c = eqb c x || among xs c

not_among : (xs : List ℕ) (c : ℕ) → Other xs c → among xs c ≡ false
not_among [] c h = refl
not_among (x ∷ xs) c h = rw (ne_eqb c x h.1) (not_among xs c h.0)

-- the rows that pass p have codes of those arms, so that its row does not
module _ (p : KindColumns → Bool) (codes : List ℕ) (none : p no_kind ≡ false) (rows : every (λ i k. implies (p k) (among codes i)) 1 kinds ≡ true) (c : ℕ) where
  pub other : Other codes c → p (kind_at c) ≡ false
  other h = go (p (kind_at c)) refl
    where
      go : (b : Bool) → p (kind_at c) ≡ b → b ≡ false
      go false e = refl
      go true e = clash (sym (by_rule p (λ i k. among codes i) none rows c e) ∙ not_among codes c h)

none_left : (n : ℕ) → leb 1 n ≡ false → n ≡ 0
none_left zero e = refl
none_left (suc n) e = clash (sym (le-leb 1 (suc n) (omega arith)) ∙ e)

no_clause : (x : Clause) → (uses_of x).some ≡ false → x ≡ clause.None
no_clause clause.None e = refl
no_clause clause.Number e = clash e
no_clause (clause.Argument i) e = clash e
no_clause clause.Read e = clash e
no_clause (clause.Call n) e = clash e
no_clause (clause.Operation op) e = clash e
no_clause clause.Choice e = clash e

-- only an expression stands for an argument
pub other_place : (c : ℕ) → is_expression c ≡ false → argument_place c ≡ 0
other_place c e = ap place_in (no_clause (clause_of c) (sym (expression_uses c) ∙ e))

module _ (c : ℕ) where
  pub other_takes : Other (3 ∷ []) c → takes c ≡ 0
  unfolding takes kinds
  other_takes h = none_left (takes c) (other (λ k. leb 1 k.takes) (3 ∷ []) refl refl c h)

-- ---- only the field a of an N line is a number

abbrev pub is_number : Form → Bool
is_number Missing = false
is_number Name = false
is_number Path = false
is_number Group = false
is_number Operand = false
is_number Number = true

module _ (c : ℕ) where
  pub number_a : (c ≡ number_code → ⊥) → is_number (fields_at c).a ≡ false
  unfolding kinds
  number_a h = other (λ k. is_number k.fields.a) (number_code ∷ []) refl refl c (tt, h)

  pub number_b : is_number (fields_at c).b ≡ false
  unfolding kinds
  number_b = by_rows (λ k. is_number k.fields.b) (λ k. false) refl refl c

  pub number_c : is_number (fields_at c).c ≡ false
  unfolding kinds
  number_c = by_rows (λ k. is_number k.fields.c) (λ k. false) refl refl c

pub number_form : (fields_at number_code).a ≡ Number
unfolding kind_at kinds
number_form = refl

-- ---- the kinds that have a name

pub group_definition : is_definition group_code ≡ true
unfolding is_definition kind_at kinds
group_definition = refl

pub group_bodiless : has_body group_code ≡ false
unfolding has_body is_definition kind_at kinds
group_bodiless = refl

pub value_body : has_body value_code ≡ true
unfolding has_body is_definition kind_at kinds
value_body = refl

pub value_definition : is_definition value_code ≡ true
value_definition = body_definition value_code value_body

pub number_expression : is_expression number_code ≡ true
unfolding is_expression is_kind is_definition kind_at kinds
number_expression = refl

pub number_operand : is_operand_form (fields_at number_code).a ≡ false
number_operand = ap is_operand_form number_form
