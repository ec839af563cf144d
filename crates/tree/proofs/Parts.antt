-- The parts of a line, and what row 8 says of them.
use mathlib.Core.Path.{◌≡◌, refl, ap, sym, ◌∙◌}
use mathlib.Core.Bool.{Bool, true, false, cond, ◌&&◌, and_assoc}
use mathlib.Core.List.{List, [], ◌∷◌, ◌++◌}
use Prim.Native.Nat.{ℕ, ◌+◌, ◌≤◌, ◌<◌}
use native.Mathlib.Omega.{arith}
use borrow.Author.Tests.{ltb-true, eqb-true, eqb-false, le-leb, eq-eqb, ne_eqb}
use lib.Dec.{leb, ltb, eqb}
use lib.IntN.{ℤ}
use Rattle.cells.specs.Lists.{one, count, all}
use Rattle.cells.proofs.Lists.{count_append}
use Rattle.kinds.specs.Kinds.{group_code, number_code, fields_at, is_operand_form}
use Rattle.kinds.specs.declared.Form.{Form}
use Rattle.kinds.proofs.Tests.{and_left, and_right}
use Rattle.kinds.proofs.Laws.{kind_low}
use Rattle.kinds.proofs.Codes.{number_operand}
use Rattle.cells.specs.Table.{cell, kind, is_definition, is_expression, field_a, field_b, field_c}
use Rattle.refusals.specs.Rows.{structure_row}
use Rattle.refusals.specs.declared.Row.{Row}
use Rattle.std.specs.Prelude.{Option, Some, None}
use Rattle.refusals.specs.Refusal.{Fine, first_bad}
use Rattle.refusals.proofs.FirstBad.{first_none}
use Rattle.tree.specs.Tree.{operand_in, parts, group_right, part_right, structure_right, structure_bad, IsPart}
use Rattle.tree.specs.Treed.{Formed}
use Rattle.tree.specs.TreeSteps.{Structured}
use Rattle.tree.proofs.Codes.{part_kind, label_low, label_high}

-- ---- lists of labels

pub all_append : (test : ℕ → Bool) (xs ys : List ℕ) → all test (xs ++ ys) ≡ (all test xs && all test ys)
all_append test [] ys = refl
all_append test (x ∷ xs) ys = rw (all_append test xs ys) (sym (and_assoc (test x) (all test xs) (all test ys)))

pub all_has : (test : ℕ → Bool) (xs : List ℕ) (x : ℕ) → all test xs ≡ true → 1 ≤ count x xs → test x ≡ true
all_has test [] x e h = absurd (omega arith)
all_has test (y ∷ ys) x e h = go (eqb x y) refl h (all_has test ys x (and_right (test y) (all test ys) e))
  where
    go : (b : Bool) → eqb x y ≡ b → 1 ≤ one b + count x ys → (1 ≤ count x ys → test x ≡ true) → test x ≡ true
    go true q g rest = rw (sym (eqb-true x y q)) at (and_left (test y) (all test ys) e)
    go false q g rest = rest (omega arith)

-- ---- over the three fields

module _ (t : List ℤ) (l : ℕ) where
  abbrev list_a : List ℕ
  list_a = operand_in (fields_at (kind t l)).a (field_a t l)

  abbrev list_b : List ℕ
  list_b = operand_in (fields_at (kind t l)).b (field_b t l)

  abbrev list_c : List ℕ
  list_c = operand_in (fields_at (kind t l)).c (field_c t l)

  pub count_parts : (x : ℕ) → count x (parts t l) ≡ count x list_a + count x list_b + count x list_c
  unfolding parts
  count_parts x = omega (arith, count_append x (list_a ++ list_b) list_c, count_append x list_a list_b)

  pub all_parts : (test : ℕ → Bool) → all test (parts t l) ≡ (all test list_a && all test list_b && all test list_c)
  unfolding parts
  all_parts test =
      all_append test (list_a ++ list_b) list_c ∙ ap (λ (b : Bool). b && all test list_c) (all_append test list_a list_b)

-- a field that is an operand holds a part
pub field_part : (f : Form) (y : ℕ) → is_operand_form f ≡ true → 1 ≤ count y (operand_in f y)
field_part f y e = rw (e, eq-eqb y y refl) (omega arith)

-- fields that hold no 0 as a body or operand
field_zero : (f : Form) (x : ℕ) → (is_operand_form f ≡ true → 1 ≤ x) → count 0 (operand_in f x) ≡ 0
field_zero f x h = go (is_operand_form f) h
  where
    go : (b : Bool) → (b ≡ true → 1 ≤ x) → count 0 (cond b (x ∷ []) []) ≡ 0
    go true g = rw (ne_eqb 0 x (λ e. omega (arith, g refl)))
    go false g = refl

pub parts_zero : (t : List ℤ) (l : ℕ) → (is_operand_form (fields_at (kind t l)).a ≡ true → 1 ≤ field_a t l) → (is_operand_form (fields_at (kind t l)).b ≡ true → 1 ≤ field_b t l)
    → (is_operand_form (fields_at (kind t l)).c ≡ true → 1 ≤ field_c t l) → count 0 (parts t l) ≡ 0
parts_zero t l a b c =
    omega (arith, count_parts t l 0, field_zero (fields_at (kind t l)).a (field_a t l) a, field_zero (fields_at (kind t l)).b (field_b t l) b, field_zero (fields_at (kind t l)).c (field_c t l) c)

-- ---- row 8

module _ (t : List ℤ) (l : ℕ) (right : structure_right t l ≡ true) where
  abbrev group_test : Bool
  group_test = cond (leb 2 l && is_definition t l) (group_right t l (field_a t l)) true

  abbrev part_test : Bool
  part_test = all (part_right t l) (parts t l)

  pub right_group : 2 ≤ l → is_definition t l ≡ true → (field_a t l < l) × (kind t (field_a t l) ≡ group_code)
  right_group h d =
      let e : (leb 2 l && is_definition t l) ≡ true = rw (le-leb 2 l h, d) in
      let g : group_right t l (field_a t l) ≡ true = rw e at (and_left group_test part_test right) in
      let below = ltb (field_a t l) l in
      let group = eqb (kind t (field_a t l)) group_code in
      (ltb-true (field_a t l) l (and_left below group g), eqb-true (kind t (field_a t l)) group_code (and_right below group g))

  pub right_part : (x : ℕ) → IsPart t l x → (l < x) × (is_expression t x ≡ true)
  right_part x p =
      let g : part_right t l x ≡ true = all_has (part_right t l) (parts t l) x (and_right group_test part_test right) p in
      (ltb-true l x (and_left (ltb l x) (is_expression t x) g), and_right (ltb l x) (is_expression t x) g)

module _ (t : List ℤ) (n : ℕ) (s : Formed t n) (fine : first_bad (structure_bad t) 1 n ≡ Fine) where
  pub right_line : (l : ℕ) → 1 ≤ l → l ≤ n → structure_right t l ≡ true
  unfolding structure_bad
  right_line l h g = go (structure_right t l) (first_none (structure_bad t) n 1 fine l h (omega arith))
    where
      go : (b : Bool) → ◌≡◌ {A = Option Row} (cond b None (Some structure_row)) None → b ≡ true
      go true e = refl
      go false e = absurd cc

  pub structured : Structured t n
  structured = record {
    formed = s;
    group = λ l h g d. right_group t l (right_line l (omega arith) g) h d;
    part = λ l x p.
        let k : 1 ≤ kind t l = kind_low (kind t l) (part_kind t l x p) in
        right_part t l (right_line l (label_low t l n s k) (label_high t l n s k)) x p;
  }

-- ---- the tree reads the kinds and the fields a, b and c alone, and of an N line no field

pub record Like (t w : List ℤ) : Type 0 where
  pub kinds : (l : ℕ) → kind w l ≡ kind t l
  pub a : (l : ℕ) → (kind t l ≡ number_code → ⊥) → field_a w l ≡ field_a t l
  pub b : (l : ℕ) → field_b w l ≡ field_b t l
  pub c : (l : ℕ) → field_c w l ≡ field_c t l

operand_like : (k x y : ℕ) → ((k ≡ number_code → ⊥) → x ≡ y) → operand_in (fields_at k).a x ≡ operand_in (fields_at k).a y
operand_like k x y h = go (eqb k number_code) refl
  where
    go : (b : Bool) → eqb k number_code ≡ b → operand_in (fields_at k).a x ≡ operand_in (fields_at k).a y
    go true e = rw (eqb-true k number_code e, number_operand)
    go false e = ap (operand_in (fields_at k).a) (h (eqb-false k number_code e))

module _ (t w : List ℤ) (same : Like t w) (l : ℕ) where
  pub like_expression : is_expression w l ≡ is_expression t l
  like_expression = rw (same.kinds l)

  pub like_definition : is_definition w l ≡ is_definition t l
  like_definition = rw (same.kinds l)

  pub like_parts : parts w l ≡ parts t l
  unfolding parts
  like_parts = rw (same.kinds l, same.b l, same.c l, operand_like (kind t l) (field_a w l) (field_a t l) (same.a l))

-- so it does not read the cells from the owner on
abbrev pub Alike : List ℤ → List ℤ → Type 0
Alike t w = (l j : ℕ) → j < 6 → cell w l j ≡ cell t l j

pub like : (t w : List ℤ) → Alike t w → Like t w
like t w same = record { kinds = λ l. same l 0 (omega arith); a = λ l d. same l 3 (omega arith); b = λ l. same l 4 (omega arith); c = λ l. same l 5 (omega arith) }

module _ (t w : List ℤ) (same : Alike t w) where
  pub alike_expression : (l : ℕ) → is_expression w l ≡ is_expression t l
  alike_expression = like_expression t w (like t w same)

  pub alike_definition : (l : ℕ) → is_definition w l ≡ is_definition t l
  alike_definition = like_definition t w (like t w same)

  pub alike_parts : (l : ℕ) → parts w l ≡ parts t l
  alike_parts = like_parts t w (like t w same)
