-- The tree of Groups: what is within what.
use mathlib.Core.Path.{◌≡◌, refl, sym, ap, ◌∙◌}
use mathlib.Core.Logic.{◌⊎◌, inl, inr}
use mathlib.Core.List.{List}
use mathlib.Core.Bool.{true}
use Prim.Native.Nat.{ℕ, zero, suc, ◌≤◌}
use native.Mathlib.Omega.{arith}
use native.Mathlib.Decide.{ℕ_discrete}
use lib.Dec.{eqb}
use lib.IntN.{ℤ}
use borrow.Author.Tests.{eqb-true, eq-eqb}
use Rattle.cells.specs.Table.{owner, is_definition}
use Rattle.cells.specs.Accepted.{Accepted}
use Rattle.order.specs.Order.{is_g, up, Within, climbs, within}
use Rattle.order.proofs.Tests.{or_cases, or_left, or_right}
use Rattle.order.proofs.Tables.{g_def, def_label, owner_below, owner_group}

module _ (t : List ℤ) (n : ℕ) (ok : Accepted t n) where
  up_zero : (j : ℕ) → up t j 0 ≡ 0
  up_zero zero = refl
  up_zero (suc j) = up_zero j

  parent_le : (v : ℕ) → owner t v ≤ v
  parent_le zero = omega (arith)
  parent_le (suc v) = omega (arith, owner_below t n ok (suc v) (omega arith))

  pub up_le : (j v : ℕ) → up t j v ≤ v
  up_le zero v = omega arith
  up_le (suc j) v = omega (arith, up_le j (owner t v), parent_le v)

  climb_sound : (k p v : ℕ) → climbs t k p v ≡ true → Within t p v
  climb_sound zero p v h = (0, eqb-true v p h)
  climb_sound (suc k) p v h = go (or_cases (eqb v p) (climbs t k p (owner t v)) h) (climb_sound k p (owner t v))
    where
      go : (eqb v p ≡ true) ⊎ (climbs t k p (owner t v) ≡ true) → (climbs t k p (owner t v) ≡ true → Within t p (owner t v)) → Within t p v
      go (inl e) r = (0, eqb-true v p e)
      go (inr e) r = let w = r e in (suc w.0, w.1)

  climb_complete : (k p v j : ℕ) → 1 ≤ p → v ≤ k → up t j v ≡ p → climbs t k p v ≡ true
  climb_complete zero p v j h l e =
      let z : v ≡ 0 = omega arith in
      let z₁ : up t j v ≡ 0 = ap (up t j) z ∙ up_zero j in
      absurd (omega arith)
  climb_complete (suc k) p v zero h l e = or_left (eqb v p) (climbs t k p (owner t v)) (eq-eqb v p e)
  climb_complete (suc k) p v (suc j) h l e =
      or_right (eqb v p) (climbs t k p (owner t v)) (climb_complete k p (owner t v) j h (small v l) e)
    where
      small : (v : ℕ) → v ≤ suc k → owner t v ≤ k
      small zero m = omega (arith)
      small (suc v) m = omega (arith, owner_below t n ok (suc v) (omega arith))

  pub within_sound : (p v : ℕ) → within t p v ≡ true → Within t p v
  within_sound p v h = climb_sound v p v h

  pub within_complete : (p v : ℕ) → 1 ≤ p → Within t p v → within t p v ≡ true
  within_complete p v h u = climb_complete v p v u.0 h (omega arith) u.1

  pub within_trans : (p q v : ℕ) → Within t p q → Within t q v → Within t p v
  within_trans p q v a b = go b.0 v b.1
    where
      go : (j v : ℕ) → up t j v ≡ q → Within t p v
      go zero v e = rw e a
      go (suc j) v e = let w = go j (owner t v) e in (suc w.0, w.1)

  pub within_owner : (p v : ℕ) → Within t p v → Within t (owner t p) v
  within_owner p v u = within_trans (owner t p) p v (1, refl) u

  -- above a thing other than itself is above its Group
  pub within_up : (p v : ℕ) → Within t p v → (v ≡ p → ⊥) → Within t p (owner t v)
  within_up p v (j, e) h = go j e
    where
      go : (j : ℕ) → up t j v ≡ p → Within t p (owner t v)
      go zero e = absurd (h e)
      go (suc j) e = (j, e)

  pub meet : (p q i j v : ℕ) → up t i v ≡ p → up t j v ≡ q → (Within t p q) ⊎ (Within t q p)
  meet p q zero j v a b = inr (j, rw (← a) b)
  meet p q (suc i) zero v a b = inl (suc i, rw (← b) a)
  meet p q (suc i) (suc j) v a b = meet p q i j (owner t v) a b

  not_above_itself : (p : ℕ) → 1 ≤ p → Within t p (owner t p) → ⊥
  not_above_itself p h u = omega (arith, up_le u.0 (owner t p), u.1, owner_below t n ok p h)

  -- two members of one Group have nothing in common
  pub apart : (p q v : ℕ) → 1 ≤ p → 1 ≤ q → owner t p ≡ owner t q → (p ≡ q → ⊥) → Within t p v → Within t q v → ⊥
  apart p q v hp hq e d a b = go (meet p q a.0 b.0 v a.1 b.1)
    where
      go : (Within t p q) ⊎ (Within t q p) → ⊥
      go (inl u) = not_above_itself p hp (rw e (within_up p q u (λ (z : q ≡ p). d (sym z))))
      go (inr u) = not_above_itself q hq (rw (← e) (within_up q p u d))

  -- what lies under g, and is not g, lies within a member of g
  pub member_above : (g v : ℕ) → 1 ≤ g → is_definition t v ≡ true → Within t g v → (v ≡ g → ⊥)
      → (p : ℕ) × (is_definition t p ≡ true) × (owner t p ≡ g) × (Within t p v)
  member_above g v hg dv (j, e) d = go j v dv e d
    where
      go : (j v : ℕ) → is_definition t v ≡ true → up t j v ≡ g → (v ≡ g → ⊥) → (p : ℕ) × (is_definition t p ≡ true) × (owner t p ≡ g) × (Within t p v)
      go zero v dv e d = absurd (d e)
      go (suc j) v dv e d = step (ℕ_discrete (owner t v) g) (go j (owner t v))
        where
          -- v is not label 1, since above that there is nothing
          two : 2 ≤ v
          two = big v (def_label t n ok v dv).0 e
            where
              big : (v : ℕ) → 1 ≤ v → up t (suc j) v ≡ g → 2 ≤ v
              big zero h e = absurd (omega arith)
              big (suc zero) h e =
                  let z : owner t 1 ≡ 0 = omega (arith, owner_below t n ok 1 (omega arith)) in
                  let z₁ : up t (suc j) 1 ≡ 0 = ap (up t j) z ∙ up_zero j in
                  absurd (omega (arith, e))
              big (suc (suc v)) h e = omega arith

          step : Dec (owner t v ≡ g)
              → (is_definition t (owner t v) ≡ true → up t j (owner t v) ≡ g → (owner t v ≡ g → ⊥) → (p : ℕ) × (is_definition t p ≡ true) × (owner t p ≡ g)
              × (Within t p (owner t v)))
              → (p : ℕ) × (is_definition t p ≡ true) × (owner t p ≡ g) × (Within t p v)
          step (yes z) r = (v, dv, z, (0, refl))
          step (no z) r =
              let w = r (g_def t (owner t v) (owner_group t n ok v dv two)) e z in
              (w.0, w.1, w.2, (suc w.3.0, w.3.1))

  -- only a Group has anything under it
  pub leaf : (p v : ℕ) → 1 ≤ p → is_definition t v ≡ true → Within t p v → (v ≡ p → ⊥) → is_g t p ≡ true
  leaf p v hp dv u d =
      let w = member_above p v hp dv u d in
      rw w.2 at (owner_group t n ok w.0 w.1 (big w.0 w.2 (def_label t n ok w.0 w.1).0))
    where
      big : (q : ℕ) → owner t q ≡ p → 1 ≤ q → 2 ≤ q
      big q e h = omega (arith, owner_below t n ok q h)

  -- label 1 is above every definition
  pub within_top : (l : ℕ) → is_definition t l ≡ true → Within t 1 l
  within_top l h = go l l (omega arith) h
    where
      go : (k l : ℕ) → l ≤ k → is_definition t l ≡ true → Within t 1 l
      go zero l m h = absurd (omega (arith, (def_label t n ok l h).0))
      go (suc k) l m h = step (ℕ_discrete l 1) (go k (owner t l))
        where
          step : Dec (l ≡ 1) → (owner t l ≤ k → is_definition t (owner t l) ≡ true → Within t 1 (owner t l)) → Within t 1 l
          step (yes e) r = (0, e)
          step (no e) r =
              let b = (def_label t n ok l h).0 in
              let w = r (omega (arith, owner_below t n ok l b)) (g_def t (owner t l) (owner_group t n ok l h (omega arith))) in
              (suc w.0, w.1)
