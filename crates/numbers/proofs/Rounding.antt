-- THEOREM: for every sign of a and of b, b not 0, the rounded quotient is nearest to a / b, with a half taken by the tie rule
-- (`quotient_nearest`), and no other number is (`nearest_only`); where a / b is no half, all tie rules give one number (`rules_agree`).
-- It is shown of the sizes first, in ℕ; on ℤ a nearest number has the sign of a / b.
use mathlib.Core.Path.{◌≡◌, refl, sym, ap, ◌∙◌, subst}
use mathlib.Core.Bool.{Bool, true, false, not, cond, beq}
use mathlib.Core.Logic.{◌⊎◌, inl, inr, ⊎_elim}
use Prim.Native.Nat.{ℕ, suc, zero, ◌+◌, ◌-◌, ◌*◌, ◌/◌, ◌%◌, ◌<◌, ◌≤◌}
use native.Mathlib.Omega.{arith}
use native.Mathlib.Nat.{mod-lt, div-add-mod', div-le_self, mul-le-mul_right, eq-or-lt_of_le, zero-mul}
use borrow.Author.Tests.{ltb-true, ltb-false}
use lib.Dec.{ltb}
use lib.IntN.{ℤ, pos, negsuc, neg_ℤ, nat_abs, ◌-ℤ◌, ◌*ℤ◌, neg_ℤ-+ℤ, neg_ℤ-neg_ℤ}
use Rattle.cells.specs.Cells.{is_negative, with_sign}
use Rattle.cells.proofs.Signed.{nat_abs_neg, with_sign_size}
use Rattle.numbers.specs.Rounding.{on_tie, round_up, rounded, signs_differ, quotient}
use Rattle.numbers.specs.Nearest.{distance, IsHalf, Preferred, Nearest}
use Rattle.numbers.specs.declared.Tie.{Tie}
use Rattle.numbers.specs.declared.Tie.TheVariants.{Away, Even}
use Rattle.numbers.proofs.Sizes.{mul_size}

-- ---- what rounding adds, by the remainder

by_remainder : (P : ℕ → Type 0) (tie : Tie) (q r d : ℕ) → (2 * r < d → P 0) → (d < 2 * r → P 1) → (2 * r ≡ d → P (on_tie tie q)) → P (round_up tie q r d)
by_remainder P tie q r d f g h = go (ltb (2 * r) d) (ltb d (2 * r)) refl refl
  where
    go : (x y : Bool) → ltb (2 * r) d ≡ x → ltb d (2 * r) ≡ y → P (cond x 0 (cond y 1 (on_tie tie q)))
    go true y e k = f (ltb-true (2 * r) d e)
    go false true e k = g (ltb-true d (2 * r) k)
    go false false e k = h (omega (arith, ltb-false (2 * r) d e, ltb-false d (2 * r) k))

pub tie_size : (tie : Tie) (q : ℕ) → on_tie tie q ≤ 1
tie_size Away q = omega arith
tie_size Even q = omega arith

pub up_size : (tie : Tie) (q r d : ℕ) → round_up tie q r d ≤ 1
up_size tie q r d = by_remainder (λ x. x ≤ 1) tie q r d (λ _. omega arith) (λ _. omega arith) (λ _. tie_size tie q)

pub quotient_size : (tie : Tie) (a b : ℤ) → nat_abs (quotient tie a b) ≤ nat_abs a + 1
unfolding quotient rounded
quotient_size tie a b =
    let n : ℕ = nat_abs a in
    let d : ℕ = nat_abs b in
    rw with_sign_size (omega (arith, div-le_self n d, up_size tie (n / d) (n % d) d))

-- a quotient from its parts, as the code has them
pub quotient_by : (tie : Tie) (a b : ℤ) {q r x : ℕ} {z : ℤ} → q ≡ nat_abs a / nat_abs b → r ≡ nat_abs a % nat_abs b
    → x ≡ round_up tie q r (nat_abs b) → z ≡ with_sign (signs_differ a b) (q + x) → z ≡ quotient tie a b
unfolding quotient rounded
quotient_by tie a b eq er ex ez = rw (← eq, ← er, ← ex) ez

-- ---- in ℕ: m * d is nearest to n

abbrev Chosen : Tie → ℕ → ℕ → ℕ → Type 0
Chosen Away n d m = n < m * d
Chosen Even n d m = m % 2 ≡ 0

record Near (tie : Tie) (n d m : ℕ) : Type 0 where
  near : 2 * ((m * d - n) + (n - m * d)) ≤ d
  half : 2 * ((m * d - n) + (n - m * d)) ≡ d → Chosen tie n d m

-- nearer than a half: the rule is not asked
strict : (tie : Tie) (n d m : ℕ) → 2 * ((m * d - n) + (n - m * d)) < d → Near tie n d m
strict tie n d m h = record { near = omega arith; half = λ e. absurd (omega arith) }

on_half : (tie : Tie) (n d q r : ℕ) → q * d + r ≡ n → 0 < d → 2 * r ≡ d → Near tie n d (q + on_tie tie q)
on_half Away n d q r e z h = record { near = omega arith; half = λ _. omega arith }
on_half Even n d q r e z h = go (q % 2) refl
  where
    go : (p : ℕ) → q % 2 ≡ p → Near Even n d (q + p)
    go zero f = record { near = omega arith; half = λ _. omega arith }
    go (suc zero) f = record { near = omega arith; half = λ _. omega arith }
    go (suc (suc p)) f = absurd (omega arith)

rounded_near : (tie : Tie) (n d : ℕ) → 0 < d → Near tie n d (rounded tie n d)
unfolding rounded
rounded_near tie n d z =
    let q : ℕ = n / d in
    let r : ℕ = n % d in
    let e : q * d + r ≡ n = div-add-mod' n d in
    let l : r < d = mod-lt n z in
    by_remainder (λ x. Near tie n d (q + x)) tie q r d
    (λ h. strict tie n d (q + 0) (omega arith))
    (λ h. strict tie n d (q + 1) (omega arith))
    (λ h. on_half tie n d q r e z h)

-- of two such numbers none is less
no_less : (tie : Tie) (n d m k : ℕ) → 0 < d → Near tie n d m → Near tie n d k → m < k → ⊥
no_less tie n d m k z a b h = clash tie (a.half low) (b.half high)
  where
    s : suc m * d ≤ k * d
    s = mul-le-mul_right d h

    low : 2 * ((m * d - n) + (n - m * d)) ≡ d
    low = omega (arith, s, a.near, b.near)

    high : 2 * ((k * d - n) + (n - k * d)) ≡ d
    high = omega (arith, s, a.near, b.near)

    next : k ≡ suc m
    next = ⊎_elim (λ e. sym e) (λ (l : suc m < k). absurd (omega (arith, mul-le-mul_right d l, low, high))) (eq-or-lt_of_le h)

    clash : (tie : Tie) → Chosen tie n d m → Chosen tie n d k → ⊥
    clash Away p q = omega (arith, s, low, high, p)
    clash Even p q = omega (arith, next, p, q)

near_only : (tie : Tie) (n d m : ℕ) → 0 < d → Near tie n d m → m ≡ rounded tie n d
near_only tie n d m z a = go (ltb m (rounded tie n d)) (ltb (rounded tie n d) m) refl refl
  where
    go : (x y : Bool) → ltb m (rounded tie n d) ≡ x → ltb (rounded tie n d) m ≡ y → m ≡ rounded tie n d
    go true y e f = absurd (no_less tie n d m (rounded tie n d) z a (rounded_near tie n d z) (ltb-true _ _ e))
    go false true e f = absurd (no_less tie n d (rounded tie n d) m z (rounded_near tie n d z) a (ltb-true _ _ f))
    go false false e f = omega (arith, ltb-false m (rounded tie n d) e, ltb-false (rounded tie n d) m f)

-- ---- on ℤ

apart : (x y : ℕ) → nat_abs (pos x -ℤ pos y) ≡ (x - y) + (y - x)
apart x zero = omega arith
apart x (suc y) = go (ltb x (suc y)) refl
  where
    go : (t : Bool) → ltb x (suc y) ≡ t → nat_abs (cond t (negsuc (suc y - suc x)) (pos (x - suc y))) ≡ (x - suc y) + (suc y - x)
    go true e = let h : x < suc y = ltb-true x (suc y) e in omega arith
    go false e = let h : suc y ≤ x = ltb-false x (suc y) e in omega arith

-- the distance of two numbers of one sign, and of two signs
alike : (s : Bool) (x y : ℕ) → distance (with_sign s x) (with_sign s y) ≡ (x - y) + (y - x)
alike false x y = apart x y
alike true x y = rw (← neg_ℤ-+ℤ (pos x) (neg_ℤ (pos y)), nat_abs_neg) (apart x y)

unlike : (s : Bool) (x y : ℕ) → distance (with_sign (not s) x) (with_sign s y) ≡ x + y
unlike false x y = rw (← neg_ℤ-+ℤ (pos x) (pos y), nat_abs_neg)
unlike true x y = rw neg_ℤ-neg_ℤ

of_sign : (z : ℤ) → with_sign (is_negative z) (nat_abs z) ≡ z
of_sign (pos n) = refl
of_sign (negsuc n) = refl

product : (s : Bool) (m : ℕ) (b : ℤ) → with_sign s m *ℤ b ≡ with_sign (not (beq s (is_negative b))) (m * nat_abs b)
product false m (pos d) = refl
product false m (negsuc d) = refl
product true zero (pos d) = simp zero-mul
product true zero (negsuc d) = simp zero-mul
product true (suc m) (pos d) = refl
product true (suc m) (negsuc d) = refl

-- the sign of a / b times b has the sign of a, and its opposite the other
again : (x y : Bool) → not (beq (not (beq x y)) y) ≡ x
again true true = refl
again true false = refl
again false true = refl
again false false = refl

opposite : (x y : Bool) → not (beq (not (not (beq x y))) y) ≡ not x
opposite true true = refl
opposite true false = refl
opposite false true = refl
opposite false false = refl

zero_sign : (s : Bool) → with_sign s 0 ≡ pos 0
zero_sign true = refl
zero_sign false = refl

same_or_not : (u s : Bool) → (u ≡ s) ⊎ (u ≡ not s)
same_or_not true true = inl refl
same_or_not true false = inr refl
same_or_not false true = inr refl
same_or_not false false = inl refl

module _ (a b : ℤ) where
  gap : (m : ℕ) → distance (with_sign (signs_differ a b) m *ℤ b) a ≡ (m * nat_abs b - nat_abs a) + (nat_abs a - m * nat_abs b)
  gap m =
      rw (product (signs_differ a b) m b, again (is_negative a) (is_negative b))
      (ap (distance (with_sign (is_negative a) (m * nat_abs b))) (sym (of_sign a)) ∙ alike (is_negative a) (m * nat_abs b) (nat_abs a))

  far : (m : ℕ) → distance (with_sign (not (signs_differ a b)) m *ℤ b) a ≡ m * nat_abs b + nat_abs a
  far m =
      rw (product (not (signs_differ a b)) m b, opposite (is_negative a) (is_negative b))
      (ap (distance (with_sign (not (is_negative a)) (m * nat_abs b))) (sym (of_sign a)) ∙ unlike (is_negative a) (m * nat_abs b) (nat_abs a))

  -- the rule on ℤ is the rule of the sizes
  size : (m : ℕ) → nat_abs (with_sign (signs_differ a b) m *ℤ b) ≡ m * nat_abs b
  size m = rw (mul_size, with_sign_size)

  chosen : (tie : Tie) (m : ℕ) → Preferred tie a b (with_sign (signs_differ a b) m) → Chosen tie (nat_abs a) (nat_abs b) m
  chosen Away m p = rw (size m) at p
  chosen Even m p = rw (with_sign_size (signs_differ a b) m) at p

  preferred : (tie : Tie) (m : ℕ) → Chosen tie (nat_abs a) (nat_abs b) m → Preferred tie a b (with_sign (signs_differ a b) m)
  preferred Away m p = rw (size m) p
  preferred Even m p = rw (with_sign_size (signs_differ a b) m) p

  from_sizes : (tie : Tie) (m : ℕ) → Near tie (nat_abs a) (nat_abs b) m → Nearest tie a b (with_sign (signs_differ a b) m)
  from_sizes tie m h = record { near = rw (gap m) h.near; half = λ e. preferred tie m (h.half (rw (gap m) at e)) }

  to_sizes : (tie : Tie) (m : ℕ) → Nearest tie a b (with_sign (signs_differ a b) m) → Near tie (nat_abs a) (nat_abs b) m
  to_sizes tie m h = record { near = rw (gap m) at h.near; half = λ e. chosen tie m (h.half (rw (gap m) e)) }

  pub quotient_nearest : (tie : Tie) → 0 < nat_abs b → Nearest tie a b (quotient tie a b)
  unfolding quotient
  quotient_nearest tie z = from_sizes tie (rounded tie (nat_abs a) (nat_abs b)) (rounded_near tie (nat_abs a) (nat_abs b) z)

  -- a number of the other sign is too far, unless it is 0
  none_far : (m : ℕ) → 0 < nat_abs b → 2 * distance (with_sign (not (signs_differ a b)) m *ℤ b) a ≤ nat_abs b → m ≡ 0
  none_far zero z h = refl
  none_far (suc m) z h = absurd (omega (arith, rw (far (suc m)) at h))

  has_sign : (tie : Tie) (q : ℤ) → 0 < nat_abs b → Nearest tie a b q → q ≡ with_sign (signs_differ a b) (nat_abs q)
  has_sign tie q z h = ⊎_elim (λ p. signed (signs_differ a b) p) other (same_or_not (is_negative q) (signs_differ a b))
    where
      signed : (s : Bool) → is_negative q ≡ s → q ≡ with_sign s (nat_abs q)
      signed s p = sym (of_sign q) ∙ ap (λ s. with_sign s (nat_abs q)) p

      other : is_negative q ≡ not (signs_differ a b) → q ≡ with_sign (signs_differ a b) (nat_abs q)
      other p =
          let e : q ≡ with_sign (not (signs_differ a b)) (nat_abs q) = signed (not (signs_differ a b)) p in
          let k : nat_abs q ≡ 0 = none_far (nat_abs q) z (subst (λ y. 2 * distance (y *ℤ b) a ≤ nat_abs b) e h.near) in
          e ∙ ap (with_sign (not (signs_differ a b))) k ∙ zero_sign (not (signs_differ a b)) ∙ sym (zero_sign (signs_differ a b)) ∙ ap (with_sign (signs_differ a b)) (sym k)

  pub nearest_only : (tie : Tie) (q : ℤ) → 0 < nat_abs b → Nearest tie a b q → q ≡ quotient tie a b
  unfolding quotient
  nearest_only tie q z h =
      let e : q ≡ with_sign (signs_differ a b) (nat_abs q) = has_sign tie q z h in
      e ∙ ap (with_sign (signs_differ a b)) (near_only tie (nat_abs a) (nat_abs b) (nat_abs q) z (to_sizes tie (nat_abs q) (subst (Nearest tie a b) e h)))

  pub rules_agree : (tie tie' : Tie) → 0 < nat_abs b → (IsHalf a b → ⊥) → quotient tie a b ≡ quotient tie' a b
  rules_agree tie tie' z none =
      nearest_only tie' (quotient tie a b) z (record { near = (quotient_nearest tie z).near; half = λ e. absurd (none (quotient tie a b, e)) })
