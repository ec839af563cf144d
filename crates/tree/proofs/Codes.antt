-- Lines by their kinds: what has parts has a kind, and what has a kind is a label.
use mathlib.Core.Path.{◌≡◌, refl, ap}
use mathlib.Core.Bool.{Bool, true, false, cond}
use mathlib.Core.List.{List, [], ◌∷◌, ◌++◌}
use Prim.Native.Nat.{ℕ, zero, suc, ◌≤◌}
use native.Mathlib.Omega.{arith}
use borrow.Author.Tests.{leb-true, leb-false}
use lib.Dec.{leb}
use lib.IntN.{ℤ}
use Rattle.kinds.specs.Kinds.{KindColumns, kind_at, fields_at, is_kind, is_operand_form, has_body, clause_of, argument_place}
use Rattle.kinds.proofs.Laws.{no_kind_lem, kind_low, definition_a, definition_c}
use Rattle.kinds.proofs.Laws as law
use Rattle.cells.specs.Lists.{count}
use Rattle.cells.specs.Table.{kind, is_definition, is_expression, field_a, field_b, field_c}
use Rattle.cells.specs.Accepted.{HasBody}
use Rattle.tree.specs.Tree.{operand_in, parts, IsPart}
use Rattle.tree.specs.Treed.{Formed}

module _ (t : List ℤ) (l : ℕ) where
  pub expression_kind : is_expression t l ≡ true → 1 ≤ kind t l
  expression_kind e = kind_low (kind t l) (law.expression_kind (kind t l) e)

  no_parts : is_kind (kind t l) ≡ false → parts t l ≡ []
  unfolding parts
  no_parts e =
      ap (λ (k : KindColumns). operand_in k.fields.a (field_a t l) ++ operand_in k.fields.b (field_b t l) ++ operand_in k.fields.c (field_c t l)) (no_kind_lem (kind t l) e)

  pub part_kind : (x : ℕ) → IsPart t l x → is_kind (kind t l) ≡ true
  part_kind x p = go (is_kind (kind t l)) refl
    where
      go : (b : Bool) → is_kind (kind t l) ≡ b → b ≡ true
      go true q = refl
      go false q = absurd (omega (arith, ap (count x) (no_parts q)))

  -- what has a kind is a label
  module _ (n : ℕ) (s : Formed t n) (h : 1 ≤ kind t l) where
    pub label_low : 1 ≤ l
    label_low = go l h
      where
        go : (x : ℕ) → 1 ≤ kind t x → 1 ≤ x
        go zero g = absurd (omega arith)
        go (suc x) g = omega arith

    pub label_high : l ≤ n
    label_high = go (leb l n) refl
      where
        go : (b : Bool) → leb l n ≡ b → l ≤ n
        go true q = leb-true l n q
        go false q = absurd (omega (arith, s.unused l (leb-false l n q)))

-- a definition's part is its body
pub part_body : (t : List ℤ) (d x : ℕ) → is_definition t d ≡ true → IsPart t d x → HasBody t d
unfolding has_body parts
part_body t d x e p = rw e (go (is_operand_form (fields_at (kind t d)).b) (rw (definition_a (kind t d) e, definition_c (kind t d) e) at p))
  where
    go : (b : Bool) → 1 ≤ count x (cond b (field_b t d ∷ []) [] ++ []) → b ≡ true
    go true h = refl
    go false h = absurd (omega arith)

-- what has no kind stands for no argument
pub no_place : argument_place 0 ≡ 0
unfolding clause_of kind_at
no_place = refl
