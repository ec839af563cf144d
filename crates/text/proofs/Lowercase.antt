-- What a byte is as a small letter, by the sort of the byte; and which bytes are the same then.
use mathlib.Core.Path.{◌≡◌, refl, ap, sym, ◌∙◌}
use mathlib.Core.Bool.{Bool, true, false}
use mathlib.Core.Logic.{◌⊎◌, inl, inr, ⊎_elim}
use mathlib.Core.List.{List, [], ◌∷◌}
use Prim.Native.Nat.{ℕ, zero, suc, ◌%◌, ◌≤◌, ◌<◌}
use native.Mathlib.Omega.{arith}
use lib.Dec.{leb, eqb}
use lib.ListN.{length, get_or}
use borrow.Author.Tests.{leb-true, leb-false, le-leb, lt-leb, eqb-true, eq-eqb}
use Rattle.cells.specs.Characters.{capital_a, capital_z}
use Rattle.std.specs.Char.{to_ascii_lowercase}
use Rattle.std.proofs.lemmas.Bool.Decides.{nat_tests}
use Rattle.text.specs.Bytes.{lowercase_byte, lowercase, is_capital, small_of, is_two_cases, SameButCase}
use Rattle.text.proofs.Bytes.{and_left, and_right}

module _ (x : ℕ) where
  pub below_capitals : x < capital_a → lowercase_byte x ≡ x
  unfolding lowercase_byte
  below_capitals h = rw (lt-leb capital_a x h)

  pub above_capitals : capital_a ≤ x → capital_z < x → lowercase_byte x ≡ x
  unfolding lowercase_byte
  above_capitals h k = rw (le-leb capital_a x h, lt-leb x capital_z k)

  pub capital_lowered : capital_a ≤ x → x ≤ capital_z → lowercase_byte x ≡ small_of x
  unfolding lowercase_byte
  capital_lowered h k = rw (le-leb capital_a x h, le-leb x capital_z k)

  -- a capital or not
  sorts : (lowercase_byte x ≡ x) ⊎ ((capital_a ≤ x) × (x ≤ capital_z) × (lowercase_byte x ≡ small_of x))
  sorts = go (leb capital_a x) (leb x capital_z) refl refl
    where
      go : (b c : Bool) → leb capital_a x ≡ b → leb x capital_z ≡ c → (lowercase_byte x ≡ x) ⊎ ((capital_a ≤ x) × (x ≤ capital_z) × (lowercase_byte x ≡ small_of x))
      go false c e f = inl (below_capitals (leb-false capital_a x e))
      go true false e f = inl (above_capitals (leb-true capital_a x e) (leb-false x capital_z f))
      go true true e f = let h = leb-true capital_a x e in let k = leb-true x capital_z f in inr (h, k, capital_lowered h k)

  -- the two cases of a letter have the same low five bits
  pub low_bits : lowercase_byte x % 32 ≡ x % 32
  low_bits = go sorts
    where
      go : (lowercase_byte x ≡ x) ⊎ ((capital_a ≤ x) × (x ≤ capital_z) × (lowercase_byte x ≡ small_of x)) → lowercase_byte x % 32 ≡ x % 32
      go (inl e) = rw e
      go (inr (h, k, e)) = rw e (omega arith)

-- ---- two bytes

module _ (x y : ℕ) where
  pub two_cases : capital_a ≤ x → x ≤ capital_z → y ≡ small_of x → is_two_cases x y ≡ true
  two_cases h k e = rw (le-leb capital_a x h, le-leb x capital_z k, eq-eqb y (small_of x) e)

  -- a capital and its small letter become one
  cases_same : is_two_cases x y ≡ true → lowercase_byte x ≡ lowercase_byte y
  cases_same c =
      let capital = and_left (is_capital x) (eqb y (small_of x)) c in
      let h = leb-true capital_a x (and_left (leb capital_a x) (leb x capital_z) capital) in
      let k = leb-true x capital_z (and_right (leb capital_a x) (leb x capital_z) capital) in
      let e = eqb-true y (small_of x) (and_right (is_capital x) (eqb y (small_of x)) c) in
      let above : lowercase_byte y ≡ y = above_capitals y (omega arith) (omega arith) in
      capital_lowered x h k ∙ sym e ∙ sym above

module _ (x y : ℕ) where
  pub case_same : SameButCase x y → lowercase_byte x ≡ lowercase_byte y
  case_same = ⊎_elim (λ e. ap lowercase_byte e) (⊎_elim (λ c. cases_same x y c) (λ c. sym (cases_same y x c)))

  pub same_case : lowercase_byte x ≡ lowercase_byte y → SameButCase x y
  same_case e = go (sorts x) (sorts y)
    where
      go : (lowercase_byte x ≡ x) ⊎ ((capital_a ≤ x) × (x ≤ capital_z) × (lowercase_byte x ≡ small_of x))
          → (lowercase_byte y ≡ y) ⊎ ((capital_a ≤ y) × (y ≤ capital_z) × (lowercase_byte y ≡ small_of y)) → SameButCase x y
      go (inl p) (inl q) = inl (omega (arith, e, p, q))
      go (inl p) (inr (h, k, q)) = inr (inr (two_cases y x h k (omega (arith, e, p, q))))
      go (inr (h, k, p)) (inl q) = inr (inl (two_cases x y h k (omega (arith, e, p, q))))
      go (inr (h, k, p)) (inr (i, j, q)) = inl (omega (arith, e, p, q))

-- ---- bytes of a name

pub lowercase_at : (w : List ℕ) (i : ℕ) → get_or (lowercase w) i 0 ≡ lowercase_byte (get_or w i 0)
lowercase_at [] i = sym (below_capitals 0 (omega arith))
lowercase_at (x ∷ w) zero = refl
lowercase_at (x ∷ w) (suc i) = lowercase_at w i

pub lowercase_length : (w : List ℕ) → length (lowercase w) ≡ length w
lowercase_length [] = refl
lowercase_length (x ∷ w) = ap suc (lowercase_length w)

-- the library's small letter
pub small_is : (x : ℕ) → to_ascii_lowercase x ≡ lowercase_byte x
unfolding lowercase_byte
small_is x = grind (arith, nat_tests)
