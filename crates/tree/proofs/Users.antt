-- Who uses a label, and what row 9 says of it.
use mathlib.Core.Path.{◌≡◌, refl, sym}
use mathlib.Core.Logic.{⊎_elim}
use mathlib.Core.Bool.{Bool, true, false, cond}
use mathlib.Core.List.{List}
use Prim.Native.Nat.{ℕ, zero, suc, ◌≤◌, ◌<◌}
use native.Mathlib.Omega.{arith}
use native.Mathlib.Nat.{eq-or-lt_of_le}
use borrow.Author.Tests.{leb-true, leb-false, eqb-true}
use lib.Dec.{leb, eqb}
use lib.IntN.{ℤ}
use Rattle.cells.specs.Lists.{count}
use Rattle.cells.specs.Table.{kind, is_expression}
use Rattle.refusals.specs.Rows.{uses_row}
use Rattle.refusals.specs.declared.Row.{Row}
use Rattle.std.specs.Prelude.{Option, Some, None}
use Rattle.refusals.specs.Refusal.{Fine, first_bad}
use Rattle.refusals.proofs.FirstBad.{first_none}
use Rattle.tree.specs.Tree.{parts, uses, uses_bad, IsPart, user_of}
use Rattle.tree.specs.TreeSteps.{Structured, UsedOnce}
use Rattle.tree.proofs.Codes.{expression_kind, label_low, label_high}
use Rattle.tree.proofs.Parts.{Like, like_parts}

module _ (t : List ℤ) (x : ℕ) where
  -- a user counts
  pub part_used : (k l : ℕ) → 1 ≤ l → l ≤ k → IsPart t l x → 1 ≤ uses t k x
  part_used zero l h g p = absurd (omega arith)
  part_used (suc k) l h g p = ⊎_elim (λ q. last q) (λ q. older (part_used k l h (omega arith) p)) (eq-or-lt_of_le g)
    where
      last : l ≡ suc k → 1 ≤ uses t (suc k) x
      last q = let r : 1 ≤ count x (parts t (suc k)) = rw (sym q) p in omega arith

      older : 1 ≤ uses t k x → 1 ≤ uses t (suc k) x
      older r = omega arith

  -- labels that do not use it change nothing
  pub uses_still : (k m : ℕ) → k ≤ m → ((l : ℕ) → k < l → l ≤ m → count x (parts t l) ≡ 0) → uses t m x ≡ uses t k x
  uses_still k zero h none = let e : k ≡ 0 = omega arith in rw e
  uses_still k (suc m) h none =
      ⊎_elim (λ e. rw e)
      (λ g.
      let i : k ≤ m = omega arith in
      let older : uses t m x ≡ uses t k x = uses_still k m i (λ l a b. none l a (omega arith)) in
      omega (arith, none (suc m) g (omega arith)))
      (eq-or-lt_of_le h)

  pub uses_grow : (k m : ℕ) → k ≤ m → uses t k x ≤ uses t m x
  uses_grow k zero h = let e : k ≡ 0 = omega arith in rw e (omega arith)
  uses_grow k (suc m) h =
      ⊎_elim (λ e. rw e (omega arith))
      (λ g.
      let i : k ≤ m = omega arith in
      omega (arith, uses_grow k m i))
      (eq-or-lt_of_le h)

  -- what is used has a user
  pub record User (k u : ℕ) : Type 0 where
    pub low : 1 ≤ u
    pub high : u ≤ k
    pub part : IsPart t u x

  pub user_some : (k : ℕ) → 1 ≤ uses t k x → User k (user_of t k x)
  user_some zero h = absurd (omega arith)
  user_some (suc k) h = go (leb 1 (count x (parts t (suc k)))) refl (user_some k)
    where
      go : (b : Bool) → leb 1 (count x (parts t (suc k))) ≡ b → (1 ≤ uses t k x → User k (user_of t k x)) → User (suc k) (cond b (suc k) (user_of t k x))
      go true q older = record { low = omega arith; high = omega arith; part = leb-true 1 (count x (parts t (suc k))) q }
      go false q older =
          let r = older (omega (arith, leb-false 1 (count x (parts t (suc k))) q)) in
          record { low = r.low; high = omega (arith, r.high); part = r.part }

  -- and what is used once has one user
  pub user_only : (k l : ℕ) → uses t k x ≤ 1 → 1 ≤ l → l ≤ k → IsPart t l x → user_of t k x ≡ l
  user_only zero l m h g p = absurd (omega arith)
  user_only (suc k) l m h g p = go (leb 1 (count x (parts t (suc k)))) refl (user_only k l)
    where
      go : (b : Bool) → leb 1 (count x (parts t (suc k))) ≡ b → (uses t k x ≤ 1 → 1 ≤ l → l ≤ k → IsPart t l x → user_of t k x ≡ l) → cond b (suc k) (user_of t k x) ≡ l
      go true q older =
          let r = leb-true 1 (count x (parts t (suc k))) q in
          ⊎_elim (λ e. sym e) (λ e. absurd (omega (arith, part_used k l h (omega arith) p))) (eq-or-lt_of_le g)
      go false q older = ⊎_elim (λ e. absurd (omega (arith, leb-false 1 (count x (parts t (suc k))) q, there e))) (λ e. older (omega arith) h (omega arith) p) (eq-or-lt_of_le g)
        where
          there : l ≡ suc k → 1 ≤ count x (parts t (suc k))
          there e = rw (sym e) p

-- ---- row 9

pub tree : (t : List ℤ) (n : ℕ) → Structured t n → first_bad (uses_bad t n) 1 n ≡ Fine → UsedOnce t n
tree t n s fine = record { structure = s; once = λ x e. go x e (eqb (uses t n x) 1) refl (none_at x (expression_kind t x e)) }
  where
    none_at : (x : ℕ) → 1 ≤ kind t x → uses_bad t n x ≡ None
    none_at x k = first_none (uses_bad t n) n 1 fine x (label_low t x n s.formed k) (omega (arith, label_high t x n s.formed k))

    go : (x : ℕ) → is_expression t x ≡ true → (b : Bool) → eqb (uses t n x) 1 ≡ b → uses_bad t n x ≡ None → uses t n x ≡ 1
    go x e true q z = eqb-true (uses t n x) 1 q
    go x e false q z = let y : ◌≡◌ {A = Option Row} (Some uses_row) None = rw (e, q) at z in absurd cc

-- ---- the tree reads the cells before the owner only

module _ (t w : List ℤ) (same : Like t w) (x : ℕ) where
  pub like_uses : (k : ℕ) → uses w k x ≡ uses t k x
  like_uses zero = refl
  like_uses (suc k) = rw (like_uses k, like_parts t w same (suc k))

  pub like_user : (k : ℕ) → user_of w k x ≡ user_of t k x
  like_user zero = refl
  like_user (suc k) = rw (like_user k, like_parts t w same (suc k))
