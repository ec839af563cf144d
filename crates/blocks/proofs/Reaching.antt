-- Needing through other items, and stacks of positions.
use mathlib.Core.Path.{◌≡◌, sym, ap, ◌∙◌, subst}
use mathlib.Core.Logic.{inl, inr}
use mathlib.Core.List.{List}
use mathlib.Core.Bool.{Bool, true}
use Prim.Native.Nat.{ℕ, zero, suc, ◌+◌, ◌-◌, ◌≤◌, ◌<◌}
use native.Mathlib.Omega.{arith}
use native.Mathlib.Decide.{ℕ_discrete, dec_lt}
use lib.ListN.{get_or}
use Rattle.order.specs.LabelLists.{◌∈◌}
use Rattle.order.proofs.Blocks.{needed_chain, onto_trans, onto_step, Tog}
use Rattle.blocks.specs.Search.{Stored, Positions, NeedsOrIs}

module _ (R : ℕ → ℕ → Bool) (items : List ℕ) where
  pub reach_trans : (p q r : ℕ) → NeedsOrIs R items p q → NeedsOrIs R items q r → NeedsOrIs R items p r
  reach_trans p q r (inl e) b = subst (λ (z : ℕ). NeedsOrIs R items z r) (sym e) b
  reach_trans p q r (inr a) (inl e) = subst (λ (z : ℕ). NeedsOrIs R items p z) e (inr a)
  reach_trans p q r (inr a) (inr b) =
      inr ((needed_chain R items p r).1 (onto_trans R items p q r ((needed_chain R items p q).0 a) ((needed_chain R items q r).0 b)))

  pub reach_step : (p q : ℕ) → q ∈ items → R p q ≡ true → NeedsOrIs R items p q
  reach_step p q m h = inr ((needed_chain R items p q).1 (onto_step R items p q m h))

  pub reach_tog : (p q : ℕ) → NeedsOrIs R items p q → NeedsOrIs R items q p → Tog R items p q
  reach_tog p q (inl e) _ = inl e
  reach_tog p q (inr a) (inl e) = inl (sym e)
  reach_tog p q (inr a) (inr b) = inr ((needed_chain R items p q).0 a, (needed_chain R items q p).0 b)

-- ---- positions, upward

positions_at : (l : List ℕ) (k n : ℕ) → Positions l k n → (i : ℕ) → i < k → i ≤ get_or l i 0
positions_at l k n g zero h = omega arith
positions_at l k n g (suc i) h = omega (arith, positions_at l k n g i (omega arith), g.upward i (suc i) (omega arith) h)

pub positions_few : (l : List ℕ) (k n : ℕ) → Positions l k n → k ≤ n
positions_few l zero n g = omega arith
positions_few l (suc k) n g = omega (arith, positions_at l (suc k) n g k (omega arith), g.under k (omega arith))

-- the last is the highest
pub positions_top : (l : List ℕ) (k n : ℕ) → Positions l k n → (i : ℕ) → i < k → get_or l i 0 ≤ get_or l (k - 1) 0
positions_top l k n g i h = go (ℕ_discrete i (k - 1))
  where
    go : Dec (i ≡ k - 1) → get_or l i 0 ≤ get_or l (k - 1) 0
    go (yes e) = omega (arith, ap (λ (j : ℕ). get_or l j 0) e)
    go (no e) = omega (arith, g.upward i (k - 1) (omega arith) (omega arith))

pub positions_fewer : (l : List ℕ) (k n r : ℕ) → r ≤ k → Positions l k n → Positions l r n
positions_fewer l k n r h g = record { upward = λ i j a b. g.upward i j a (omega arith); under = λ i a. g.under i (omega arith) }

-- without the last all are below it
pub positions_cut : (l : List ℕ) (k n s : ℕ) → 0 < k → s ≡ get_or l (k - 1) 0 → Positions l k n → Positions l (k - 1) s
positions_cut l k n s h e g = record {
  upward = λ i j a b. g.upward i j a (omega arith);
  under = λ i a. omega (arith, g.upward i (k - 1) a (omega arith));
}

pub positions_push : (l l' : List ℕ) (k n : ℕ) → Stored l l' k n → Positions l k n → Positions l' (k + 1) (n + 1)
positions_push l l' k n u g = record { upward = λ i j a b. up i j a (dec_lt j k) b; under = λ i a. low i (dec_lt i k) a }
  where
    old : (i : ℕ) → i < k → get_or l' i 0 ≡ get_or l i 0
    old i h = u.others i (λ e. omega arith)

    new : (i : ℕ) → ¬ (i < k) → i < k + 1 → get_or l' i 0 ≡ n
    new i h a = let e : i ≡ k = omega arith in ap (λ (j : ℕ). get_or l' j 0) e ∙ u.own

    up : (i j : ℕ) → i < j → Dec (j < k) → j < k + 1 → get_or l' i 0 < get_or l' j 0
    up i j a (yes h) b = omega (arith, old i (omega arith), old j h, g.upward i j a h)
    up i j a (no h) b = omega (arith, old i (omega arith), new j h b, g.under i (omega arith))

    low : (i : ℕ) → Dec (i < k) → i < k + 1 → get_or l' i 0 < n + 1
    low i (yes h) a = omega (arith, old i h, g.under i h)
    low i (no h) a = omega (arith, new i h a)
