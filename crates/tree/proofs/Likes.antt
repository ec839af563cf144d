-- Rows 8 to 11 of tables that the tree does not tell apart.
use mathlib.Core.Path.{◌≡◌, refl, ap, sym, ◌∙◌}
use mathlib.Core.Bool.{Bool, true, false, cond, ◌&&◌}
use mathlib.Core.List.{List, [], ◌∷◌}
use Prim.Native.Nat.{ℕ}
use lib.Dec.{leb}
use lib.IntN.{ℤ}
use Rattle.cells.specs.Lists.{all}
use Rattle.kinds.specs.Kinds.{number_code}
use Rattle.kinds.specs.Kinds as kinds
use Rattle.kinds.proofs.Tests.{and_right}
use Rattle.kinds.proofs.Laws.{not_definition}
use Rattle.kinds.proofs.Codes.{number_expression}
use Rattle.cells.specs.Table.{kind, is_definition, field_a}
use Rattle.cells.proofs.Signed.{clash}
use Rattle.refusals.proofs.FirstBad.{first_same}
use Rattle.tree.specs.Tree.{parts, group_right, part_right, structure_right, structure_bad, uses_bad, owner_of, argument_bad, level_bad, tree_bad}
use Rattle.tree.proofs.Parts.{Like, like_expression, like_definition, like_parts}
use Rattle.tree.proofs.Users.{like_uses}
use Rattle.tree.proofs.Owners.{like_level, like_owner}

all_same : (f g : ℕ → Bool) → ((x : ℕ) → f x ≡ g x) → (xs : List ℕ) → all f xs ≡ all g xs
all_same f g h [] = refl
all_same f g h (x ∷ xs) = rw (h x, all_same f g h xs)

module _ (t w : List ℤ) (same : Like t w) where
  -- a definition is no N line
  definition_other : (l : ℕ) → is_definition t l ≡ true → kind t l ≡ number_code → ⊥
  definition_other l d q = clash (sym d ∙ not_definition (kind t l) (ap kinds.is_expression q ∙ number_expression))

  part_like : (l x : ℕ) → part_right w l x ≡ part_right t l x
  part_like l x = rw (like_expression t w same x)

  group_like : (l : ℕ) (b : Bool) → (b ≡ true → is_definition t l ≡ true) → cond b (group_right w l (field_a w l)) true ≡ cond b (group_right t l (field_a t l)) true
  group_like l true h = rw (same.a l (definition_other l (h refl)), same.kinds (field_a t l))
  group_like l false h = refl

  pub right_like : (l : ℕ) → structure_right w l ≡ structure_right t l
  right_like l =
      rw (
        like_definition t w same l,
        like_parts t w same l,
        group_like l (leb 2 l && is_definition t l) (and_right (leb 2 l) (is_definition t l)),
        all_same (part_right w l) (part_right t l) (part_like l) (parts t l),
      )

  pub structure_like : (l : ℕ) → structure_bad w l ≡ structure_bad t l
  unfolding structure_bad
  structure_like l = rw (right_like l)

  module _ (n : ℕ) where
    uses_like : (x : ℕ) → uses_bad w n x ≡ uses_bad t n x
    uses_like x = rw (like_expression t w same x, like_uses t w same x n)

    argument_like : (x : ℕ) → argument_bad w n x ≡ argument_bad t n x
    argument_like x = rw (like_owner t w n same x, same.kinds (owner_of t n x), same.kinds x)

    level_like : (x : ℕ) → level_bad w n x ≡ level_bad t n x
    level_like x = rw (like_level t w n same x)

    pub tree_like : tree_bad w n ≡ tree_bad t n
    unfolding tree_bad
    tree_like =
        rw (
          first_same (structure_bad w) (structure_bad t) n 1 (λ x h g. structure_like x),
          first_same (uses_bad w n) (uses_bad t n) n 1 (λ x h g. uses_like x),
          first_same (argument_bad w n)
              (argument_bad t n) n 1 (λ x h g. argument_like x),
          first_same (level_bad w n) (level_bad t n) n 1 (λ x h g. level_like x),
        )
