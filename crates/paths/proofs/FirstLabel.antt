-- The first label that passes a test.
use mathlib.Core.Path.{◌≡◌, refl, ap, sym, ◌∙◌}
use mathlib.Core.Bool.{Bool, true, false, cond}
use mathlib.Core.Logic.{⊎_elim}
use Prim.Native.Nat.{ℕ, zero, suc, ◌+◌, ◌≤◌, ◌<◌}
use native.Mathlib.Nat.{eq-or-lt_of_le}
use native.Mathlib.Omega.{arith}
use Rattle.text.proofs.Bytes.{true_false}
use Rattle.paths.specs.Names.{first_label}

pub first_same : (p q : ℕ → Bool) (m l : ℕ) → ((x : ℕ) → l ≤ x → x < l + m → p x ≡ q x) → first_label p l m ≡ first_label q l m
first_same p q zero l h = refl
first_same p q (suc m) l h = rw (h l (omega arith) (omega arith), first_same p q m (suc l) (λ x a b. h x (omega arith) (omega arith)))

module _ (p : ℕ → Bool) where
  -- what is found passes, and is one of the labels
  pub record Passing (l m x : ℕ) : Type 0 where
    pub passes : p x ≡ true
    pub low : l ≤ x
    pub high : x < l + m

  found_go : (l m x : ℕ) → (first_label p (suc l) m ≡ x → Passing (suc l) m x) → (b : Bool) → p l ≡ b → cond b l (first_label p (suc l) m) ≡ x → Passing l (suc m) x
  found_go l m x rest true e f = let q : l ≡ x = f in record { passes = ap p (sym q) ∙ e; low = omega arith; high = omega arith }
  found_go l m x rest false e f = let g = rest f in record { passes = g.passes; low = omega (arith, g.low); high = omega (arith, g.high) }

  pub first_found : (m l x : ℕ) → first_label p l m ≡ x → (x ≡ 0 → ⊥) → Passing l m x
  first_found zero l x e z = absurd (z (sym e))
  first_found (suc m) l x e z = found_go l m x (λ f. first_found m (suc l) x f z) (p l) refl e

  -- where none is found, none passes
  none_go : (l m x : ℕ) → 1 ≤ l → l ≤ x → p x ≡ true → (l < x → first_label p (suc l) m ≡ 0 → ⊥) → (b : Bool) → p l ≡ b
      → cond b l (first_label p (suc l) m) ≡ 0 → ⊥
  none_go l m x h k e rest true q f = omega arith
  none_go l m x h k e rest false q f = ⊎_elim (λ z. true_false (sym e ∙ ap p (sym z) ∙ q)) (λ z. rest z f) (eq-or-lt_of_le k)

  pub none_passes : (m l x : ℕ) → 1 ≤ l → first_label p l m ≡ 0 → l ≤ x → x < l + m → p x ≡ true → ⊥
  none_passes zero l x h f k g e = omega arith
  none_passes (suc m) l x h f k g e = none_go l m x h k e (λ z q. none_passes m (suc l) x (omega arith) q z (omega arith) e) (p l) refl f

  high_go : (b : Bool) (l m x : ℕ) → x < suc l + m → cond b l x < l + suc m
  high_go true l m x h = omega arith
  high_go false l m x h = omega arith

  pub first_high : (m l : ℕ) → 1 ≤ l → first_label p l m < l + m
  first_high zero l h = omega arith
  first_high (suc m) l h = high_go (p l) l m (first_label p (suc l) m) (first_high m (suc l) (omega arith))
