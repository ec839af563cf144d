-- Owners and levels in a table that passes rows 8 and 9.
use mathlib.Core.Path.{◌≡◌, refl, ap, sym, ◌∙◌}
use mathlib.Core.Logic.{⊎_elim}
use mathlib.Core.Bool.{Bool, true, false, cond}
use mathlib.Core.List.{List, [], ◌∷◌}
use Prim.Native.Nat.{ℕ, zero, suc, ◌≤◌, ◌<◌}
use native.Mathlib.Omega.{arith}
use lib.IntN.{ℤ}
use lib.ListN.{length}
use Rattle.kinds.specs.Kinds as kinds
use Rattle.kinds.proofs.Laws.{kind_low, not_expression, either}
use Rattle.kinds.proofs.Codes.{number_expression}
use Rattle.cells.specs.Table.{kind, is_definition, is_expression, field_a}
use Rattle.cells.specs.Accepted.{HasBody}
use Rattle.cells.proofs.Signed.{clash}
use Rattle.tree.specs.Tree.{IsPart, Owned, Level, user_of, climb, last_of, definition_of, owner_of, level_of}
use Rattle.tree.specs.TreeSteps.{UsedOnce}
use Rattle.tree.proofs.Codes.{part_kind, part_body, label_low, label_high}
use Rattle.tree.proofs.Parts.{Like, like_expression}
use Rattle.tree.proofs.Users.{User, user_some, user_only, like_user}

-- ---- climbing

module _ (t : List ℤ) (n : ℕ) where
  climb_none : (m x : ℕ) → is_expression t x ≡ false → climb t n m x ≡ []
  climb_none zero x e = refl
  climb_none (suc m) x e = rw e

  module _ (x : ℕ) (e : is_expression t x ≡ false) where
    pub definition_own : definition_of t n x ≡ x
    unfolding definition_of
    definition_own = rw (climb_none x x e)

    pub level_own : level_of t n x ≡ 0
    unfolding level_of
    level_own = rw (climb_none x x e)

    pub owner_group : owner_of t n x ≡ field_a t x
    unfolding owner_of
    owner_group = rw e

  pub owner_standing : (x : ℕ) → is_expression t x ≡ true → owner_of t n x ≡ definition_of t n x
  unfolding owner_of
  owner_standing x e = rw e

-- ---- rows 8 and 9 passed

module _ (t : List ℤ) (n : ℕ) (s : UsedOnce t n) where
  pub user : (x : ℕ) → is_expression t x ≡ true → User t x n (user_of t n x)
  user x e = user_some t x n (omega (arith, s.once x e))

  pub user_below : (x : ℕ) → is_expression t x ≡ true → user_of t n x < x
  user_below x e = (s.structure.part (user_of t n x) x (user x e).part).0

  -- fuel above the label changes nothing
  climb_same : (m k x : ℕ) → x ≤ m → x ≤ k → climb t n m x ≡ climb t n k x
  climb_same zero k x h g = go (is_expression t x) refl
    where
      go : (b : Bool) → is_expression t x ≡ b → climb t n zero x ≡ climb t n k x
      go true e = absurd (omega (arith, user_below x e))
      go false e = sym (climb_none t n k x e)
  climb_same (suc m) zero x h g = go (is_expression t x) refl
    where
      go : (b : Bool) → is_expression t x ≡ b → climb t n (suc m) x ≡ climb t n zero x
      go true e = absurd (omega (arith, user_below x e))
      go false e = climb_none t n (suc m) x e
  climb_same (suc m) (suc k) x h g = go (is_expression t x) refl (climb_same m k (user_of t n x))
    where
      go : (b : Bool) → is_expression t x ≡ b → (user_of t n x ≤ m → user_of t n x ≤ k → climb t n m (user_of t n x) ≡ climb t n k (user_of t n x))
          → climb t n (suc m) x ≡ climb t n (suc k) x
      go true e rest = rw (rest (omega (arith, user_below x e)) (omega (arith, user_below x e)))
      go false e rest = climb_none t n (suc m) x e ∙ sym (climb_none t n (suc k) x e)

  unrolled : (x : ℕ) → is_expression t x ≡ true → climb t n x x ≡ user_of t n x ∷ climb t n (user_of t n x) (user_of t n x)
  unrolled zero e = absurd (omega (arith, user_below zero e))
  unrolled (suc m) e = rw e (ap (λ (us : List ℕ). user_of t n (suc m) ∷ us) (climb_same m (user_of t n (suc m)) (user_of t n (suc m)) (omega (arith, user_below (suc m) e)) (omega arith)))

  -- ---- a part of line l

  module _ (l x : ℕ) (p : IsPart t l x) where
    pub part_expression : is_expression t x ≡ true
    part_expression = (s.structure.part l x p).1

    line_kind : 1 ≤ kind t l
    line_kind = kind_low (kind t l) (part_kind t l x p)

    part_user : user_of t n x ≡ l
    part_user =
        user_only t x n l (omega (arith, s.once x part_expression))
        (label_low t l n s.structure.formed line_kind) (label_high t l n s.structure.formed line_kind) p

    part_climb : climb t n x x ≡ l ∷ climb t n l l
    part_climb = unrolled x part_expression ∙ ap (λ (u : ℕ). u ∷ climb t n u u) part_user

    pub part_definition : definition_of t n x ≡ definition_of t n l
    unfolding definition_of
    part_definition = ap (last_of x) part_climb

    pub part_owner : owner_of t n x ≡ definition_of t n l
    part_owner = owner_standing t n x part_expression ∙ part_definition

    pub part_level : level_of t n x ≡ suc (level_of t n l)
    unfolding level_of
    part_level = ap length part_climb

  module _ (d x : ℕ) (e : is_definition t d ≡ true) (p : IsPart t d x) where
    pub body_owner : owner_of t n x ≡ d
    body_owner = part_owner d x p ∙ definition_own t n d (not_expression (kind t d) e)

    pub body_level : level_of t n x ≡ 1
    body_level = part_level d x p ∙ ap suc (level_own t n d (not_expression (kind t d) e))

  -- ---- what holds of bodies, and of operands where it holds of their line, holds of every expression

  module _ (P : ℕ → Type 0)
      (base : (d x : ℕ) → is_definition t d ≡ true → IsPart t d x → P x)
      (step : (u x : ℕ) → is_expression t u ≡ true → P u → IsPart t u x → P x) where
    within : (m x : ℕ) → x ≤ m → is_expression t x ≡ true → P x
    within zero x h e = absurd (omega (arith, user_below x e))
    within (suc m) x h e = go (within m (user_of t n x))
      where
        u : User t x n (user_of t n x)
        u = user x e

        go : (user_of t n x ≤ m → is_expression t (user_of t n x) ≡ true → P (user_of t n x)) → P x
        go rest =
            ⊎_elim (λ d. base (user_of t n x) x d u.part)
            (λ f. step (user_of t n x) x f (rest (omega (arith, user_below x e)) f) u.part)
            (either (kind t (user_of t n x)) (part_kind t (user_of t n x) x u.part))

    pub by_user : (x : ℕ) → is_expression t x ≡ true → P x
    by_user x e = within x x (omega arith) e

  -- ---- the relations, and that they have one answer

  pub owned : (x : ℕ) → is_expression t x ≡ true → Owned t (owner_of t n x) x
  owned =
      by_user (λ x. Owned t (owner_of t n x) x)
      (λ d x e p. rw (body_owner d x e p) (Owned.body d x e p))
      (λ u x e o p. rw (part_owner u x p ∙ sym (owner_standing t n u e)) (Owned.operand (owner_of t n u) u x o e p))

  pub owned_only : (d x : ℕ) → Owned t d x → d ≡ owner_of t n x
  owned_only d x (Owned.body _ _ e p) = sym (body_owner d x e p)
  owned_only d x (Owned.operand _ u _ o e p) = owned_only d u o ∙ owner_standing t n u e ∙ sym (part_owner u x p)

  pub levelled : (x : ℕ) → is_expression t x ≡ true → Level t x (level_of t n x)
  levelled =
      by_user (λ x. Level t x (level_of t n x))
      (λ d x e p. rw (body_level d x e p) (Level.body d x e p))
      (λ u x e o p. rw (part_level u x p) (Level.operand u x (level_of t n u) o e p))

  pub level_only : (x k : ℕ) → Level t x k → k ≡ level_of t n x
  level_only x k (Level.body d _ e p) = sym (body_level d x e p)
  level_only x k (Level.operand u _ m o e p) = ap suc (level_only u m o) ∙ sym (part_level u x p)

  -- ---- the owner has a body and a smaller label

  pub owned_below : (d x : ℕ) → Owned t d x → d < x
  owned_below d x (Owned.body _ _ e p) = (s.structure.part d x p).0
  owned_below d x (Owned.operand _ u _ o e p) = omega (arith, owned_below d u o, (s.structure.part u x p).0)

  pub owned_body : (d x : ℕ) → Owned t d x → HasBody t d
  owned_body d x (Owned.body _ _ e p) = part_body t d x e p
  owned_body d x (Owned.operand _ u _ o e p) = owned_body d u o

-- ---- of tables that the tree does not tell apart

module _ (t w : List ℤ) (n : ℕ) (same : Like t w) where
  like_climb : (m x : ℕ) → climb w n m x ≡ climb t n m x
  like_climb zero x = refl
  like_climb (suc m) x = rw (like_expression t w same x, like_user t w same x n, like_climb m (user_of t n x))

  pub like_level : (x : ℕ) → level_of w n x ≡ level_of t n x
  unfolding level_of
  like_level x = ap length (like_climb x x)

  pub like_owner : (x : ℕ) → owner_of w n x ≡ owner_of t n x
  unfolding owner_of definition_of
  like_owner x = rw (like_expression t w same x, like_climb x x) (go (is_expression t x) refl)
    where
      go : (b : Bool) → is_expression t x ≡ b → cond b (last_of x (climb t n x x)) (field_a w x) ≡ cond b (last_of x (climb t n x x)) (field_a t x)
      go true e = refl
      go false e = same.a x (λ q. clash (sym (ap kinds.is_expression q ∙ number_expression) ∙ e))
