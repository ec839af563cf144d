-- One label, case by case, as the code finds it.
use mathlib.Core.Path.{◌≡◌, refl}
use mathlib.Core.Bool.{Bool, true, false, cond, ◌&&◌, and-true}
use mathlib.Core.List.{List, [], ◌∷◌}
use Prim.Native.Nat.{ℕ, ◌+◌, ◌-◌, ◌*◌, ◌≤◌}
use native.Mathlib.Omega.{arith}
use borrow.Author.Tests.{ne_eqb}
use lib.Dec.{eqb}
use lib.IntN.{ℤ, pos}
use lib.ListN.{set}
use Rattle.cells.specs.Lists.{one, count, all}
use Rattle.cells.specs.Table.{kind, is_definition, field_a, field_b, field_c, owner, target}
use Rattle.std.specs.Prelude.{Option, Some, None}
use Rattle.refusals.specs.Rows.{structure_row}
use Rattle.kinds.specs.Kinds.{fields_at, is_operand_form}
use Rattle.kinds.specs.declared.Form.{Form}
use Rattle.tree.specs.Tree.{operand_in, parts, part_right, structure_right, structure_bad}
use Rattle.tree.specs.Treed.{Formed}
use Rattle.tree.specs.TreeSteps.{part_in, node_at, Known, part_fits, twice, assigned, claimed, claimed_all, propagated}
use Rattle.tree.proofs.Parts.{count_parts, all_parts}

pub known : (t : List ℤ) (n l : ℕ) → Formed t n → 1 ≤ l → l ≤ n → Known t l
known t n l s h g = record { cells = (h, omega (arith, s.room)); known = s.kinds l h g }

-- ---- row 8: the parts

-- how often x is the part in a field
abbrev pub counted : ℕ → Option ℕ → ℕ
counted x None = 0
counted x (Some y) = one (eqb x y)

field_count : (f : Form) (x y : ℕ) → count x (operand_in f y) ≡ counted x (part_in f y)
field_count f x y = go (is_operand_form f)
  where
    go : (b : Bool) → count x (cond b (y ∷ []) []) ≡ counted x (cond b (Some y) None)
    go true = omega arith
    go false = refl

field_fit : (t : List ℤ) (l : ℕ) (f : Form) (x : ℕ) → all (part_right t l) (operand_in f x) ≡ part_fits t l (part_in f x)
field_fit t l f x = go (is_operand_form f)
  where
    go : (b : Bool) → all (part_right t l) (cond b (x ∷ []) []) ≡ part_fits t l (cond b (Some x) None)
    go true = and-true (part_right t l x)
    go false = refl

module _ (t : List ℤ) (l : ℕ) where
  pub node_definition : (node_at t l).definition ≡ is_definition t l
  unfolding node_at
  node_definition = refl

  pub node_count : (x : ℕ) → count x (parts t l) ≡ counted x (node_at t l).a + counted x (node_at t l).b + counted x (node_at t l).c
  unfolding node_at
  node_count x =
      rw (count_parts t l x, field_count (fields_at (kind t l)).a x (field_a t l), field_count (fields_at (kind t l)).b x (field_b t l), field_count (fields_at (kind t l)).c x (field_c t l))

  pub parts_fit : all (part_right t l) (parts t l) ≡ (part_fits t l (node_at t l).a && part_fits t l (node_at t l).b && part_fits t l (node_at t l).c)
  unfolding node_at
  parts_fit =
      rw (
        all_parts t l (part_right t l),
        field_fit t l (fields_at (kind t l)).a (field_a t l),
        field_fit t l (fields_at (kind t l)).b (field_b t l),
        field_fit t l (fields_at (kind t l)).c (field_c t l),
      )

  pub structure_found : (b : Bool) → structure_right t l ≡ b → structure_bad t l ≡ cond b None (Some structure_row)
  unfolding structure_bad
  structure_found b e = rw e

-- ---- what is written

module _ (x : ℕ) (t : List ℤ) (d v : ℕ) where
  pub assigned_none : x ≡ 0 → assigned x d v t ≡ t
  assigned_none e = rw e

  pub assigned_some : (x ≡ 0 → ⊥) → assigned x d v t ≡ set (set t (8 * (x - 1) + 6) (pos d)) (8 * (x - 1) + 7) (pos v)
  assigned_some e = rw (ne_eqb x 0 e)

  pub claimed_first : owner t x ≡ 0 → claimed (Some x) d v t ≡ assigned x d v t
  claimed_first e = rw e

  pub claimed_again : (owner t x ≡ 0 → ⊥) → claimed (Some x) d v t ≡ set t (8 * (x - 1) + 6) (pos twice)
  claimed_again e = rw (ne_eqb (owner t x) 0 e)

module _ (l : ℕ) (t : List ℤ) where
  pub propagated_definition : (node_at t l).definition ≡ true → propagated l t ≡ claimed_all (node_at t l) l 1 (assigned l (field_a t l) 0 t)
  unfolding propagated
  propagated_definition e = rw e

  pub propagated_expression : (node_at t l).definition ≡ false → propagated l t ≡ claimed_all (node_at t l) (owner t l) (target t l + 1) t
  unfolding propagated
  propagated_expression e = rw e
