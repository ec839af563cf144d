-- Where the values of a member begin in a proper order: behind those of a member that it needs, if its own are consecutive.
use mathlib.Core.Path.{◌≡◌, ap, ◌∙◌}
use mathlib.Core.Logic.{◌⊎◌, inl, inr}
use mathlib.Core.List.{List, [], ◌∷◌, ◌++◌, append_assoc}
use mathlib.Core.Bool.{true}
use Prim.Native.Nat.{ℕ, ◌+◌, ◌<◌}
use native.Mathlib.Omega.{arith}
use native.Mathlib.Decide.{ℕ_discrete}
use lib.IntN.{ℤ}
use Rattle.cells.specs.Table.{owner, is_definition}
use Rattle.cells.specs.Accepted.{Accepted}
use Rattle.order.specs.LabelLists.{count, ◌∈◌}
use Rattle.order.specs.Order.{is_g, is_v, Within, within, reaches, Proper, Consecutive, Whole}
use Rattle.order.proofs.Tests.{both_ways, not_so}
use Rattle.order.proofs.Lists.{count_parts, count_here, split, in_there, in_left, in_right, in_append, in_single}
use Rattle.order.proofs.Joined.{ahead, ahead_past, ahead_in}
use Rattle.order.proofs.Tables.{v_kind, kind_v, g_kind, v_def, v_not_g, pos_of, reaches_exact}
use Rattle.order.proofs.Tree.{within_sound, apart, leaf}
use Rattle.order.proofs.Proper.{listed_once, listed_value}
use Rattle.order.proofs.Needs.{holds, holds_v, holds_within, holds_in}

module _ (t : List ℤ) (n : ℕ) (ok : Accepted t n) (o : List ℕ) (p : Proper t o) where
  -- a value alone is consecutive
  single : (q : ℕ) → is_v t q ≡ true → Consecutive (Within t q) o
  single q iq = at (split q o (omega (arith, listed_once p q (v_kind t q iq))))
    where
      at : (a : List ℕ) × (b : List ℕ) × (o ≡ a ++ q ∷ b) → Consecutive (Within t q) o
      at (a, b, e) = record {
        front = a;
        block = q ∷ [];
        back = b;
        parts = e;
        inside = λ v m. (0, in_single v q m);
        before = λ v m. alone v (in_left v a (q ∷ b) m) (λ (z : v ≡ q). let m₁ : q ∈ a = rw z at m in omega (arith, c));
        behind = λ v m. alone v (in_right v a (q ∷ b) (in_there v q b m)) (λ (z : v ≡ q). let m₁ : q ∈ b = rw z at m in omega (arith, c));
      }
        where
          c : count q a + (1 + count q b) ≡ 1
          c = omega (arith, listed_once p q (v_kind t q iq), count_parts q a (q ∷ b) e, count_here q b)

          alone : (v : ℕ) → v ∈ a ++ q ∷ b → (v ≡ q → ⊥) → Within t q v → ⊥
          alone v m z h =
              let m₁ : v ∈ o = rw e m in
              both_ways (is_g t q) (leaf t n ok q v (pos_of t n ok q (v_def t q iq)) (v_def t v (kind_v t v (listed_value p v m₁))) h z) (v_not_g t q iq)

  -- so are the values within a member that holds one, in a whole order
  pub side : Whole t o → (q x : ℕ) → is_definition t q ≡ true → holds t q x ≡ true → Consecutive (Within t q) o
  side w q x d h = go (ℕ_discrete x q)
    where
      go : Dec (x ≡ q) → Consecutive (Within t q) o
      go (yes z) = single q (rw z at (holds_v t n ok q x h))
      go (no z) = w q (g_kind t q (leaf t n ok q x (pos_of t n ok q d) (v_def t x (holds_v t n ok q x h)) (holds_in t n ok q x h) z))

  -- the values of r begin before those of q, if a value of q reaches one of r and those of q are consecutive
  pub begins : (q r x y : ℕ) → is_definition t q ≡ true → is_definition t r ≡ true → owner t q ≡ owner t r → (q ≡ r → ⊥)
      → holds t q x ≡ true → holds t r y ≡ true → reaches t n x y ≡ true
      → Consecutive (Within t q) o → ahead (within t r) o < ahead (within t q) o
  begins q r x y dq dr e z hx hy h b = at (split x b.block (in_block_lem (in_append x b.front (b.block ++ b.back) there)))
    where
      there : x ∈ b.front ++ (b.block ++ b.back)
      there = omega (arith, listed_once p x (v_kind t x (holds_v t n ok q x hx)), ap (count x) b.parts)

      in_block_lem : (x ∈ b.front) ⊎ (x ∈ b.block ++ b.back) → x ∈ b.block
      in_block_lem (inl m) = absurd (b.before x m (holds_in t n ok q x hx))
      in_block_lem (inr m) = next (in_append x b.block b.back m)
        where
          next : (x ∈ b.block) ⊎ (x ∈ b.back) → x ∈ b.block
          next (inl k) = k
          next (inr k) = absurd (b.behind x k (holds_in t n ok q x hx))

      at : (c : List ℕ) × (d : List ℕ) × (b.block ≡ c ++ x ∷ d) → ahead (within t r) o < ahead (within t q) o
      at (c, d, f) = go (in_append y b.front c y_before)
        where
          cut : o ≡ (b.front ++ c) ++ x ∷ (d ++ b.back)
          cut = b.parts ∙ ap (λ (l : List ℕ). b.front ++ (l ++ b.back)) f ∙ simp append_assoc

          y_before : y ∈ b.front ++ c
          y_before = p.after (b.front ++ c) x (d ++ b.back) cut y (v_kind t y (holds_v t n ok r y hy)) ((reaches_exact t n ok x y).0 h)

          go : (y ∈ b.front) ⊎ (y ∈ c) → ahead (within t r) o < ahead (within t q) o
          go (inl m) =
              let l₁ = ahead_in (within t r) b.front (b.block ++ b.back) y m (holds_within t n ok r y hy) in
              let l₂ = ahead_past (within t q) b.front (b.block ++ b.back) (λ v i. not_so (within t q v) (λ h. b.before v i (within_sound t n ok q v h))) in
              rw b.parts (omega arith)
          go (inr m) =
              let m₁ : y ∈ b.block = rw f (in_left y c (x ∷ d) m) in
              absurd (apart t n ok q r y (pos_of t n ok q dq) (pos_of t n ok r dr) e z (b.inside y m₁) (holds_in t n ok r y hy))
