-- What is under a member, and what a member needs.
use mathlib.Core.Path.{◌≡◌, ap}
use mathlib.Core.List.{List}
use mathlib.Core.Bool.{Bool, true, false, not, ◌&&◌}
use Prim.Native.Nat.{ℕ, ◌≤◌}
use native.Mathlib.Decide.{ℕ_discrete}
use lib.Dec.{eqb}
use lib.IntN.{ℤ}
use borrow.Author.Tests.{eqb-false, ne_eqb, not-true}
use Rattle.cells.specs.Table.{is_definition}
use Rattle.cells.specs.Accepted.{Accepted}
use Rattle.order.specs.LabelLists.{any}
use Rattle.order.specs.Order.{is_g, is_v, values, Within, within, reaches, reaches_into, needs}
use Rattle.order.proofs.Tests.{both_ways, and_left, and_right, and_intro}
use Rattle.order.proofs.Lists.{any_true, any_intro}
use Rattle.order.proofs.Tables.{v_def, pos_of, in_values, value_of}
use Rattle.order.proofs.Tree.{within_sound, within_complete, leaf}

-- v is a value that is p or under p
abbrev pub holds : List ℤ → ℕ → ℕ → Bool
holds t p v = is_v t v && within t p v

module _ (t : List ℤ) (n : ℕ) (ok : Accepted t n) where
  pub holds_intro : (p v : ℕ) → 1 ≤ p → is_v t v ≡ true → Within t p v → holds t p v ≡ true
  holds_intro p v h iv u = and_intro (is_v t v) (within t p v) iv (within_complete t n ok p v h u)

  pub holds_v : (p v : ℕ) → holds t p v ≡ true → is_v t v ≡ true
  holds_v p v h = and_left (is_v t v) (within t p v) h

  pub holds_within : (p v : ℕ) → holds t p v ≡ true → within t p v ≡ true
  holds_within p v h = and_right (is_v t v) (within t p v) h

  pub holds_in : (p v : ℕ) → holds t p v ≡ true → Within t p v
  holds_in p v h = within_sound t n ok p v (holds_within p v h)

  pub needs_intro : (p q x y : ℕ) → (p ≡ q → ⊥) → holds t p x ≡ true → holds t q y ≡ true → reaches t n x y ≡ true → needs t n p q ≡ true
  needs_intro p q x y d hx hy r =
      and_intro (not (eqb p q)) (any (λ x. within t p x && reaches_into t n q x) (values t n)) (ap not (ne_eqb p q d))
      (any_intro (λ x. within t p x && reaches_into t n q x) (values t n) x (in_values t n ok x (holds_v p x hx))
      (and_intro (within t p x) (reaches_into t n q x) (holds_within p x hx)
      (any_intro (λ y. within t q y && reaches t n x y) (values t n) y (in_values t n ok y (holds_v q y hy))
      (and_intro (within t q y) (reaches t n x y) (holds_within q y hy) r))))

  pub needs_elim : (p q : ℕ) → needs t n p q ≡ true
      → (p ≡ q → ⊥) × ((x : ℕ) × (y : ℕ) × (holds t p x ≡ true) × (holds t q y ≡ true) × (reaches t n x y ≡ true))
  needs_elim p q h =
      let d = eqb-false p q (not-true (eqb p q) (and_left (not (eqb p q)) (any (λ x. within t p x && reaches_into t n q x) (values t n)) h)) in
      let a = any_true (λ x. within t p x && reaches_into t n q x) (values t n) (and_right (not (eqb p q)) (any (λ x. within t p x && reaches_into t n q x) (values t n)) h) in
      let x = a.0 in
      let b = any_true (λ y. within t q y && reaches t n x y) (values t n) (and_right (within t p x) (reaches_into t n q x) a.2) in
      let y = b.0 in (
        d,
        (
          x,
          y,
          and_intro (is_v t x) (within t p x) (value_of t n ok x a.1) (and_left (within t p x) (reaches_into t n q x) a.2),
          and_intro (is_v t y) (within t q y) (value_of t n ok y b.1) (and_left (within t q y) (reaches t n x y) b.2),
          and_right (within t q y) (reaches t n x y) b.2,
        ),
      )

  -- only a Group holds anything but itself
  pub only_itself : (p v : ℕ) → is_definition t p ≡ true → is_g t p ≡ false → holds t p v ≡ true → v ≡ p
  only_itself p v d ng h = pick (ℕ_discrete v p)
    where
      pick : Dec (v ≡ p) → v ≡ p
      pick (yes e) = e
      pick (no e) = both_ways (is_g t p) (leaf t n ok p v (pos_of t n ok p d) (v_def t v (holds_v p v h)) (holds_in p v h) e) ng
