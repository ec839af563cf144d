-- What a table has in which rows 8 to 11 find nothing; and the same of the table with each label's owner written.
use mathlib.Core.Path.{◌≡◌, refl, ap, sym, ◌∙◌}
use mathlib.Core.Logic.{◌⊎◌, ⊎_elim}
use mathlib.Core.Bool.{Bool, true, false}
use mathlib.Core.List.{List}
use Prim.Native.Nat.{ℕ, ◌≤◌, ◌<◌}
use native.Mathlib.Omega.{arith}
use native.Mathlib.Nat.{eq-or-lt_of_le}
use native.Mathlib.Numerals.{add-one}
use borrow.Author.Tests.{ltb-false, leb-true, leb-false}
use lib.Dec.{leb, ltb}
use lib.IntN.{ℤ}
use Rattle.cells.specs.Limits.{level_limit}
use Rattle.kinds.specs.Kinds.{group_code, fields_at, is_operand_form, operand_a, operand_b, operand_c, has_body, takes, argument_place}
use Rattle.kinds.proofs.Tests.{and_left, and_right}
use Rattle.kinds.proofs.Laws.{not_expression, either}
use Rattle.cells.specs.Table.{kind, is_definition, is_expression, field_a, field_b, field_c, owner, with_column}
use Rattle.cells.specs.Accepted.{HasBody, Part}
use Rattle.cells.proofs.Columns.{column_own, column_other}
use Rattle.refusals.specs.Rows.{argument_row, level_row}
use Rattle.refusals.specs.declared.Row.{Row}
use Rattle.refusals.proofs.OrElse.{both_fine}
use Rattle.std.specs.Prelude.{Option, Some, None}
use Rattle.refusals.specs.Refusal.{Fine, first_bad}
use Rattle.refusals.proofs.FirstBad.{first_none}
use Rattle.tree.specs.Tree.{IsPart, uses_bad, definition_of, owner_of, level_of, argument_in, argument_bad, level_bad, structure_bad, tree_bad}
use Rattle.tree.specs.Treed.{Formed, PartOf, Treed}
use Rattle.tree.specs.TreeSteps.{UsedOnce}
use Rattle.tree.proofs.Codes.{expression_kind, no_place, label_low, label_high}
use Rattle.tree.proofs.Parts.{Alike, structured, count_parts, field_part}
use Rattle.tree.proofs.Users.{tree}
use Rattle.tree.proofs.Owners as own

module _ (t : List ℤ) (n : ℕ) (s : Formed t n) (fine : tree_bad t n ≡ Fine) where
  rows : (first_bad (structure_bad t) 1 n ≡ Fine) × (first_bad (uses_bad t n) 1 n ≡ Fine) × (first_bad (argument_bad t n) 1 n ≡ Fine) × (first_bad (level_bad t n) 1 n ≡ Fine)
  unfolding tree_bad
  rows =
      let a = both_fine (first_bad (structure_bad t) 1 n) _ fine in
      let b = both_fine (first_bad (uses_bad t n) 1 n) _ a.1 in
      let c = both_fine (first_bad (argument_bad t n) 1 n) (first_bad (level_bad t n) 1 n) b.1 in
      (a.0, b.0, c.0, c.1)

  is : UsedOnce t n
  is = tree t n (structured t n s rows.0) rows.1

  group_own : (l : ℕ) → is_definition t l ≡ true → owner_of t n l ≡ field_a t l
  group_own l d = own.owner_group t n l (not_expression (kind t l) d)

  owner_falls : (l : ℕ) → 1 ≤ l → l ≤ n → owner_of t n l < l
  owner_falls l h g = ⊎_elim (λ d. group d (eq-or-lt_of_le h)) (λ e. own.owned_below t n is (owner_of t n l) l (own.owned t n is l e)) (either (kind t l) (s.kinds l h g))
    where
      group : is_definition t l ≡ true → (1 ≡ l) ⊎ (1 < l) → owner_of t n l < l
      group d c =
          ⊎_elim (λ q. omega (arith, group_own l d, ap (field_a t) q, s.top))
          (λ q. omega (arith, group_own l d, (is.structure.group l q g d).0)) c

  part_of : (l x : ℕ) → IsPart t l x → PartOf t n l x
  part_of l x p =
      let e = own.part_expression t n is l x p in
      let k = expression_kind t x e in
      record {
        above = (is.structure.part l x p).0;
        label = label_high t x n s k;
        expression = e;
        owner = own.part_owner t n is l x p;
        level = own.part_level t n is l x p ∙ sym (add-one (level_of t n l));
      }

  has_body_lem : (x : ℕ) → is_expression t x ≡ true → HasBody t (owner_of t n x)
  has_body_lem x e = own.owned_body t n is (owner_of t n x) x (own.owned t n is x e)

  argument_in_lem : (x : ℕ) → argument_place (kind t x) ≤ takes (kind t (owner_of t n x))
  argument_in_lem x = go (leb 1 (kind t x)) refl
    where
      given : (k d : ℕ) → argument_in k d ≡ None → (b : Bool) → ltb (takes d) (argument_place k) ≡ b → argument_place k ≤ takes d
      given k d z true q = let y : ◌≡◌ {A = Option Row} (Some argument_row) None = rw q at z in absurd cc
      given k d z false q = ltb-false (takes d) (argument_place k) q

      go : (b : Bool) → leb 1 (kind t x) ≡ b → argument_place (kind t x) ≤ takes (kind t (owner_of t n x))
      go true q =
          let h = leb-true 1 (kind t x) q in
          let z : argument_bad t n x ≡ None = first_none (argument_bad t n) n 1 rows.2 x (label_low t x n s h) (omega (arith, label_high t x n s h)) in
          given (kind t x) (kind t (owner_of t n x)) z (ltb (takes (kind t (owner_of t n x))) (argument_place (kind t x))) refl
      go false q =
          let z : kind t x ≡ 0 = omega (arith, leb-false 1 (kind t x) q) in
          omega (arith, ap argument_place z ∙ no_place)

  low_level : (x : ℕ) → 1 ≤ x → x ≤ n → level_of t n x ≤ level_limit
  low_level x h g = go (ltb level_limit (level_of t n x)) refl (first_none (level_bad t n) n 1 rows.3 x h (omega arith))
    where
      go : (b : Bool) → ltb level_limit (level_of t n x) ≡ b → level_bad t n x ≡ None → level_of t n x ≤ level_limit
      go true q z = let y : ◌≡◌ {A = Option Row} (Some level_row) None = rw q at z in absurd cc
      go false q z = ltb-false level_limit (level_of t n x) q

  pub treed : Treed t n
  treed = record {
    groups = λ l h g d. rw (group_own l d) (is.structure.group l h g d).1;
    falls = owner_falls;
    part = part_of;
    itself = λ l d. own.definition_own t n l (not_expression (kind t l) d);
    standing = λ l e. sym (own.owner_standing t n l e);
    once = is.once;
    owners = has_body_lem;
    argument = argument_in_lem;
    level = low_level;
    owned = own.owned t n is;
    owned_only = own.owned_only t n is;
    levelled = own.levelled t n is;
    level_only = own.level_only t n is;
  }

-- ---- the table with owners: the tree's part of what Read accepts

pub record TreeAccepted (w : List ℤ) (n : ℕ) : Type 0 where
  pub falls : (l : ℕ) → 1 ≤ l → l ≤ n → owner w l < l
  pub group : (l : ℕ) → 2 ≤ l → l ≤ n → is_definition w l ≡ true → kind w (owner w l) ≡ group_code
  pub owners : (l : ℕ) → is_expression w l ≡ true → HasBody w (owner w l)
  pub argument : (l : ℕ) → argument_place (kind w l) ≤ takes (kind w (owner w l))
  pub body : (l : ℕ) → HasBody w l → Part w n l l (field_b w l)
  pub first : (l : ℕ) → operand_a (kind w l) ≡ true → Part w n l (owner w l) (field_a w l)
  pub second : (l : ℕ) → operand_b (kind w l) ≡ true → Part w n l (owner w l) (field_b w l)
  pub third : (l : ℕ) → operand_c (kind w l) ≡ true → Part w n l (owner w l) (field_c w l)

module _ (t : List ℤ) (n : ℕ) (s : Formed t n) (r : Treed t n) where
  abbrev owned_table_lem : List ℤ
  owned_table_lem = with_column 6 (owner_of t n) n t

  same : Alike t owned_table_lem
  same l j h = column_other 6 (owner_of t n) (omega arith) n t l j (omega arith) (λ e. omega arith)

  kind_same : (l : ℕ) → kind owned_table_lem l ≡ kind t l
  kind_same l = same l 0 (omega arith)

  owner_is : (l : ℕ) → 1 ≤ l → l ≤ n → owner owned_table_lem l ≡ owner_of t n l
  owner_is l h g = column_own 6 (owner_of t n) (omega arith) n t l h g s.room

  -- of a line that has a kind
  owner_at : (l : ℕ) → 1 ≤ kind t l → owner owned_table_lem l ≡ owner_of t n l
  owner_at l k = owner_is l (label_low t l n s k) (label_high t l n s k)

  -- x stands in line l, whose definition is d
  placed : (l d x y : ℕ) → y ≡ x → IsPart t l x → definition_of t n l ≡ d → Part owned_table_lem n l d y
  placed l d x y q p e =
      let h = r.part l x p in
      rw q (record {
        above = h.above;
        label = h.label;
        expression = rw (kind_same x) h.expression;
        owned = owner_at x (expression_kind t x h.expression) ∙ h.owner ∙ e;
      })

  -- an operand of an expression
  operand_placed : (l x y : ℕ) → y ≡ x → is_expression t l ≡ true → IsPart t l x → Part owned_table_lem n l (owner owned_table_lem l) y
  operand_placed l x y q e p = placed l (owner owned_table_lem l) x y q p (r.standing l e ∙ sym (owner_at l (expression_kind t l e)))

  first_part : (l : ℕ) → is_operand_form (fields_at (kind t l)).a ≡ true → IsPart t l (field_a t l)
  first_part l e = omega (arith, count_parts t l (field_a t l), field_part (fields_at (kind t l)).a (field_a t l) e)

  second_part : (l : ℕ) → is_operand_form (fields_at (kind t l)).b ≡ true → IsPart t l (field_b t l)
  second_part l e = omega (arith, count_parts t l (field_b t l), field_part (fields_at (kind t l)).b (field_b t l) e)

  third_part : (l : ℕ) → is_operand_form (fields_at (kind t l)).c ≡ true → IsPart t l (field_c t l)
  third_part l e = omega (arith, count_parts t l (field_c t l), field_part (fields_at (kind t l)).c (field_c t l) e)

  body_placed : (l : ℕ) → HasBody t l → Part owned_table_lem n l l (field_b owned_table_lem l)
  unfolding has_body
  body_placed l h =
      placed l l (field_b t l) (field_b owned_table_lem l) (same l 4 (omega arith)) (second_part l (and_right (is_definition t l) (is_operand_form (fields_at (kind t l)).b) h))
      (r.itself l (and_left (is_definition t l) (is_operand_form (fields_at (kind t l)).b) h))

  first_placed : (l : ℕ) → operand_a (kind t l) ≡ true → Part owned_table_lem n l (owner owned_table_lem l) (field_a owned_table_lem l)
  unfolding operand_a
  first_placed l h =
      operand_placed l (field_a t l) (field_a owned_table_lem l) (same l 3 (omega arith)) (and_left (is_expression t l) (is_operand_form (fields_at (kind t l)).a) h)
      (first_part l (and_right (is_expression t l) (is_operand_form (fields_at (kind t l)).a) h))

  second_placed : (l : ℕ) → operand_b (kind t l) ≡ true → Part owned_table_lem n l (owner owned_table_lem l) (field_b owned_table_lem l)
  unfolding operand_b
  second_placed l h =
      operand_placed l (field_b t l) (field_b owned_table_lem l) (same l 4 (omega arith)) (and_left (is_expression t l) (is_operand_form (fields_at (kind t l)).b) h)
      (second_part l (and_right (is_expression t l) (is_operand_form (fields_at (kind t l)).b) h))

  third_placed : (l : ℕ) → operand_c (kind t l) ≡ true → Part owned_table_lem n l (owner owned_table_lem l) (field_c owned_table_lem l)
  unfolding operand_c
  third_placed l h =
      operand_placed l (field_c t l) (field_c owned_table_lem l) (same l 5 (omega arith)) (and_left (is_expression t l) (is_operand_form (fields_at (kind t l)).c) h)
      (third_part l (and_right (is_expression t l) (is_operand_form (fields_at (kind t l)).c) h))

  -- an argument's owner; what is no label stands for none
  argument_given : (l : ℕ) → argument_place (kind owned_table_lem l) ≤ takes (kind owned_table_lem (owner owned_table_lem l))
  argument_given l = rw (kind_same l) (go (leb 1 (kind t l)) refl)
    where
      go : (b : Bool) → leb 1 (kind t l) ≡ b → argument_place (kind t l) ≤ takes (kind owned_table_lem (owner owned_table_lem l))
      go true q = rw (owner_at l (leb-true 1 (kind t l) q), kind_same (owner_of t n l)) (r.argument l)
      go false q =
          let z : kind t l ≡ 0 = omega (arith, leb-false 1 (kind t l) q) in
          omega (arith, ap argument_place z ∙ no_place)

  pub tree_accepted : TreeAccepted owned_table_lem n
  tree_accepted = record {
    falls = λ l h g. rw (owner_is l h g) (r.falls l h g);
    group = λ l h g d. rw (owner_is l (omega arith) g, kind_same (owner_of t n l)) (r.groups l h g (rw (kind_same l) at d));
    owners = λ l e.
        let x : is_expression t l ≡ true = rw (kind_same l) at e in
        rw (owner_at l (expression_kind t l x), kind_same (owner_of t n l)) (r.owners l x);
    argument = argument_given;
    body = λ l h. body_placed l (rw (kind_same l) at h);
    first = λ l h. first_placed l (rw (kind_same l) at h);
    second = λ l h. second_placed l (rw (kind_same l) at h);
    third = λ l h. third_placed l (rw (kind_same l) at h);
  }
