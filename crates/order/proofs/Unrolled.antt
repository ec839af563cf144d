-- What a Group lists is made of what its blocks list, with no bound on how deep its Groups are: a member's label is above its Group's.
use mathlib.Core.Path.{◌≡◌, ap}
use mathlib.Core.Logic.{◌⊎◌, inl, inr}
use mathlib.Core.List.{List}
use mathlib.Core.Bool.{true, false, cond}
use Prim.Native.Nat.{ℕ, zero, suc, ◌+◌, ◌≤◌, ◌<◌}
use native.Mathlib.Omega.{arith}
use lib.IntN.{ℤ}
use Rattle.cells.specs.Accepted.{Accepted}
use Rattle.order.specs.LabelLists.{◌∈◌, joined}
use Rattle.order.specs.Blocks.{several, leaders, block_needs}
use Rattle.order.specs.Order.{is_g, is_v, members, needs, ordered, several_plan, listed, block_listed, group_plan}
use Rattle.order.proofs.Tests.{so_or_not}
use Rattle.order.proofs.Placing.{placed_sub}
use Rattle.order.proofs.Joined.{joined_same}
use Rattle.order.proofs.Tables.{g_def, pos_of, def_label, owner_below, member_of}
use Rattle.order.proofs.Blocks.{lead_of}

module _ (t : List ℤ) (n : ℕ) where
  -- what a member or a block lists asks only for a Group's list
  pub listed_same : (f h : ℕ → List ℕ) (p : ℕ) → (is_g t p ≡ true → f p ≡ h p) → listed t f p ≡ listed t h p
  listed_same f h p e = go (so_or_not (is_v t p)) (so_or_not (is_g t p))
    where
      go : (is_v t p ≡ true) ⊎ (is_v t p ≡ false) → (is_g t p ≡ true) ⊎ (is_g t p ≡ false) → listed t f p ≡ listed t h p
      go (inl v) _ = rw v
      go (inr v) (inl i) = rw (v, i) (e i)
      go (inr v) (inr i) = rw (v, i)

  pub block_same : (g : ℕ) (f h : ℕ → List ℕ) (b : ℕ) → (is_g t b ≡ true → f b ≡ h b) → block_listed t n g f b ≡ block_listed t n g h b
  block_same g f h b e = ap (λ (l : List ℕ). cond (several (needs t n) (members t n g) b) (several_plan t n g b) l) (listed_same f h b e)

module _ (t : List ℤ) (n : ℕ) (ok : Accepted t n) where
  -- a block is known by a label above its Group's
  pub member_later : (g p : ℕ) → p ∈ ordered t n g → (g < p) × (p ≤ n)
  member_later g p m =
      let l = placed_sub (block_needs (needs t n) (members t n g)) (leaders (needs t n) (members t n g)) p m in
      let w = member_of t n ok g p (lead_of (needs t n) (members t n g) p l).0 in
      (omega (arith, owner_below t n ok p (pos_of t n ok p w.0), w.1), (def_label t n ok p w.0).1)

  -- more depth than is needed makes no difference
  pub deep : (j k g : ℕ) → is_g t g ≡ true → n < g + j → n < g + k → group_plan t n j g ≡ group_plan t n k g
  deep zero k g ig a b = absurd (omega (arith, (def_label t n ok g (g_def t g ig)).1))
  deep (suc j) zero g ig a b = absurd (omega (arith, (def_label t n ok g (g_def t g ig)).1))
  deep (suc j) (suc k) g ig a b =
      joined_same (block_listed t n g (λ p. group_plan t n j p)) (block_listed t n g (λ p. group_plan t n k p)) (ordered t n g) (λ p m.
      same p (member_later g p m).0 (deep j k p))
    where
      same : (p : ℕ) → g < p → (is_g t p ≡ true → n < p + j → n < p + k → group_plan t n j p ≡ group_plan t n k p)
          → block_listed t n g (λ p. group_plan t n j p) p ≡ block_listed t n g (λ p. group_plan t n k p) p
      same p later r = block_same t n g (λ p. group_plan t n j p) (λ p. group_plan t n k p) p (λ gp. r gp (omega arith) (omega arith))

  pub group_unrolled : (g : ℕ) → is_g t g ≡ true → group_plan t n n g ≡ joined (block_listed t n g (λ p. group_plan t n n p)) (ordered t n g)
  group_unrolled g ig = deep n (suc n) g ig (omega (arith, pos_of t n ok g (g_def t g ig))) (omega (arith, pos_of t n ok g (g_def t g ig)))
