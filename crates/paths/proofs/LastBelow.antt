-- The last label below k that passes a test: where a chain leads, and what a walk along it finds.
use mathlib.Core.Path.{◌≡◌, refl, ap, sym, ◌∙◌}
use mathlib.Core.Bool.{Bool, true, false, cond}
use mathlib.Core.Logic.{⊎_elim}
use Prim.Native.Nat.{ℕ, zero, suc, ◌+◌, ◌-◌, ◌≤◌, ◌<◌}
use native.Mathlib.Nat.{eq-or-lt_of_le}
use native.Mathlib.Omega.{arith}
use lib.Dec.{eqb, ltb}
use borrow.Author.Tests.{ne_eqb, ltb-true, ltb-false}
use Rattle.text.proofs.Bytes.{true_false}
use Rattle.paths.specs.Names.{first_label}
use Rattle.paths.specs.Buckets.{last_below}
use Rattle.paths.proofs.FirstLabel.{first_found, none_passes}

pub last_same : (p q : ℕ → Bool) (k : ℕ) → ((x : ℕ) → p x ≡ q x) → last_below p k ≡ last_below q k
last_same p q zero h = refl
last_same p q (suc k) h = rw (h k, last_same p q k h)

module _ (p : ℕ → Bool) where
  -- at one label
  pub last_hit : (k : ℕ) → p k ≡ true → last_below p (suc k) ≡ k
  last_hit k e = rw e

  pub last_miss : (k : ℕ) → p k ≡ false → last_below p (suc k) ≡ last_below p k
  last_miss k e = rw e

  -- below label 1 there is none
  pub last_one : last_below p 1 ≡ 0
  last_one = go (p 0)
    where
      go : (b : Bool) → ◌≡◌ {A = ℕ} (cond b 0 0) 0
      go true = refl
      go false = refl

  pub last_small : (k : ℕ) → 1 ≤ k → last_below p k < k
  last_small zero h = absurd (omega arith)
  last_small (suc zero) h = omega (arith, last_one)
  last_small (suc (suc k)) h = go (p (suc k)) (last_small (suc k) (omega arith))
    where
      go : (b : Bool) → last_below p (suc k) < suc k → cond b (suc k) (last_below p (suc k)) < suc (suc k)
      go true l = omega arith
      go false l = omega arith

  -- what is found passes, and is one of the labels
  passes_go : (k x : ℕ) → (last_below p k ≡ x → (p x ≡ true) × (x < k)) → (b : Bool) → p k ≡ b → cond b k (last_below p k) ≡ x → (p x ≡ true) × (x < suc k)
  passes_go k x rest true f q = let e : k ≡ x = q in (ap p (sym e) ∙ f, omega arith)
  passes_go k x rest false f q = let h = rest q in (h.0, omega (arith, h.1))

  pub last_passes : (k x : ℕ) → last_below p k ≡ x → (x ≡ 0 → ⊥) → (p x ≡ true) × (x < k)
  last_passes zero x e z = absurd (z (sym e))
  last_passes (suc k) x e z = passes_go k x (λ q. last_passes k x q z) (p k) refl e

  -- where none is found, none passes
  none_go : (k x : ℕ) → 1 ≤ x → x ≤ k → p x ≡ true → (x < k → last_below p k ≡ 0 → ⊥) → (b : Bool) → p k ≡ b → cond b k (last_below p k) ≡ 0 → ⊥
  none_go k x l h f rest true g q = omega arith
  none_go k x l h f rest false g q = ⊎_elim (λ r. true_false (sym f ∙ ap p r ∙ g)) (λ r. rest r q) (eq-or-lt_of_le h)

  pub last_none : (k x : ℕ) → last_below p k ≡ 0 → 1 ≤ x → x < k → p x ≡ true → ⊥
  last_none zero x e l h f = omega arith
  last_none (suc k) x e l h f = none_go k x l (omega arith) f (λ r q. last_none k x q l r f) (p k) refl e

  pub none_last : (k : ℕ) → ((x : ℕ) → 1 ≤ x → x < k → p x ≡ true → ⊥) → last_below p k ≡ 0
  none_last k h = go (last_below p k) refl
    where
      go : (x : ℕ) → last_below p k ≡ x → x ≡ 0
      go zero e = refl
      go (suc x) e = let f = last_passes k (suc x) e (λ z. omega arith) in absurd (h (suc x) (omega arith) f.1 f.0)

  -- ---- beside the first label that passes

  pub last_empty : (k : ℕ) → eqb (first_label p 1 (k - 1)) 0 ≡ eqb (last_below p k) 0
  last_empty k = go (first_label p 1 (k - 1)) (last_below p k) refl refl
    where
      go : (x y : ℕ) → first_label p 1 (k - 1) ≡ x → last_below p k ≡ y → eqb x 0 ≡ eqb y 0
      go zero zero e f = refl
      go zero (suc y) e f =
          let g = last_passes k (suc y) f (λ z. omega arith) in
          absurd (none_passes p (k - 1) 1 (suc y) (omega arith) e (omega arith) (omega (arith, g.1)) g.0)
      go (suc x) zero e f =
          let g = first_found p (k - 1) 1 (suc x) e (λ z. omega arith) in
          absurd (last_none k (suc x) f g.low (omega (arith, g.high)) g.passes)
      go (suc x) (suc y) e f = ne_eqb (suc x) 0 (λ z. omega arith) ∙ sym (ne_eqb (suc y) 0 (λ z. omega arith))

  -- the first is the last where no two pass
  module _ (n : ℕ) (apart : (x y : ℕ) → 1 ≤ x → x < y → y ≤ n → p x ≡ true → p y ≡ true → ⊥) where
    pub one_only : (x y : ℕ) → 1 ≤ x → x ≤ n → p x ≡ true → 1 ≤ y → y ≤ n → p y ≡ true → x ≡ y
    one_only x y l h e m g f = go (ltb x y) (ltb y x) refl refl
      where
        go : (a b : Bool) → ltb x y ≡ a → ltb y x ≡ b → x ≡ y
        go true b u v = absurd (apart x y l (ltb-true x y u) g e f)
        go false true u v = absurd (apart y x m (ltb-true y x v) h f e)
        go false false u v = omega (arith, ltb-false x y u, ltb-false y x v)

    pub last_first : last_below p (n + 1) ≡ first_label p 1 n
    last_first = go (last_below p (n + 1)) (first_label p 1 n) refl refl
      where
        go : (y x : ℕ) → last_below p (n + 1) ≡ y → first_label p 1 n ≡ x → y ≡ x
        go zero zero f e = refl
        go (suc y) zero f e =
            let g = last_passes (n + 1) (suc y) f (λ z. omega arith) in
            absurd (none_passes p n 1 (suc y) (omega arith) e (omega arith) (omega (arith, g.1)) g.0)
        go zero (suc x) f e =
            let g = first_found p n 1 (suc x) e (λ z. omega arith) in
            absurd (last_none (n + 1) (suc x) f g.low (omega (arith, g.high)) g.passes)
        go (suc y) (suc x) f e =
            let g = first_found p n 1 (suc x) e (λ z. omega arith) in
            let h = last_passes (n + 1) (suc y) f (λ z. omega arith) in
            one_only (suc y) (suc x) (omega arith) (omega (arith, h.1)) h.0 g.low (omega (arith, g.high)) g.passes

  -- ---- labels that fail a test which all that pass have may be left out

  module _ (q : ℕ → Bool) (only : (x : ℕ) → p x ≡ true → q x ≡ true) where
    fails : (x : ℕ) → q x ≡ false → p x ≡ false
    fails x e = go (p x) refl
      where
        go : (b : Bool) → p x ≡ b → b ≡ false
        go true f = absurd (true_false (sym (only x f) ∙ e))
        go false f = refl

    skip_go : (k : ℕ) → last_below p k ≡ last_below p (suc (last_below q k)) → (b : Bool) → q k ≡ b
        → last_below p (suc k) ≡ last_below p (suc (cond b k (last_below q k)))
    skip_go k rest true e = refl
    skip_go k rest false e = last_miss k (fails k e) ∙ rest

    pub last_skip : (k : ℕ) → last_below p k ≡ last_below p (suc (last_below q k))
    last_skip zero = sym last_one
    last_skip (suc k) = skip_go k (last_skip k) (q k) refl
