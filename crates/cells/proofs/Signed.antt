-- Laws of signed values: signs, sizes, and a value read back from its 64 bits.
-- The code's tests and casts speak of `to_z w64 (of_z w64 z)`, and `==` of the bits `of_z w64 z`.
use mathlib.Core.Path.{◌≡◌, refl, sym, ap, ◌∙◌}
use mathlib.Core.Bool.{Bool, true, false}
use Prim.Native.Nat.{ℕ, suc, zero, ◌≤◌, ◌<◌, ◌^◌}
use native.Mathlib.Omega.{arith}
use borrow.Author.Rules.{sfits_of}
use borrow.Author.Tests.{eq-eqb, ne_eqb}
use lib.Dec.{T, ltb, leb-suc-zero, ltb→lt}
use lib.IntN.{ℤ, pos, negsuc, neg_ℤ, nat_abs}
use lib.Signed.{lt_z, non_neg, mag}
use mir.Syntax.{w64}
use mir.Val.{to_z, of_z, SFits, Fits}
use mir.Facts.{to_z-of_z, Fits-nat_abs}
pub use Rattle.kinds.proofs.Tests.{clash}
use Rattle.cells.specs.Cells.{is_negative, equals, nat_of, with_sign}

-- ---- signs

-- the code's test x < 0
pub lt_zero : (x : ℤ) → lt_z x (pos 0) ≡ is_negative x
lt_zero (pos n) = leb-suc-zero n
lt_zero (negsuc n) = refl

pub nat_of_negative : (x : ℤ) → is_negative x ≡ true → 0 ≡ nat_of x
nat_of_negative (pos n) e = clash (sym e)
nat_of_negative (negsuc n) e = refl

pub nat_abs_nat_of : (x : ℤ) → is_negative x ≡ false → nat_abs x ≡ nat_of x
nat_abs_nat_of (pos n) e = refl
nat_abs_nat_of (negsuc n) e = clash e

pub non_neg_is : (x : ℤ) → is_negative x ≡ false → T (non_neg x)
non_neg_is (pos n) e = tt
non_neg_is (negsuc n) e = clash e

-- ---- sizes

pub nat_abs_neg : (x : ℤ) → nat_abs (neg_ℤ x) ≡ nat_abs x
nat_abs_neg (pos zero) = refl
nat_abs_neg (pos (suc n)) = refl
nat_abs_neg (negsuc n) = refl

pub with_sign_size : (s : Bool) (m : ℕ) → nat_abs (with_sign s m) ≡ m
with_sign_size false m = refl
with_sign_size true m = nat_abs_neg (pos m)

mag_le : (x : ℤ) → mag x ≤ nat_abs x
mag_le (pos n) = omega arith
mag_le (negsuc n) = omega arith

-- a number of small size fits a cell, and so does its negation; `fits_by` takes a literal bound
pub fits_below : (x : ℤ) → nat_abs x < 2 ^ 63 → SFits w64 x
fits_below x h = record { sfits = omega (arith, mag_le x) }

pub neg_fits : (x : ℤ) → nat_abs x < 2 ^ 63 → SFits w64 (neg_ℤ x)
neg_fits x h = fits_below (neg_ℤ x) (rw nat_abs_neg h)

pub fits_by : (x : ℤ) (k : ℕ) → nat_abs x ≤ k → T (ltb k (2 ^ 63)) → SFits w64 x
fits_by x k h t = record { sfits = omega (arith, mag_le x, ltb→lt k (2 ^ 63) t) }

-- ---- a value read back from its bits

pub whole : (z : ℤ) → mag z < 2 ^ 63 → to_z w64 (of_z w64 z) ≡ z
whole z h = to_z-of_z {w = w64} (sfits_of {w = w64} {z = z} h)

-- the code's test x < 0, as a sign
pub test_negative : (x : ℤ) (b : Bool) → SFits w64 x → lt_z (to_z w64 (of_z w64 x)) (pos 0) ≡ b → is_negative x ≡ b
test_negative x b f e = sym (lt_zero x) ∙ (rw (to_z-of_z {w = w64} f) at e)

-- what a cast to a usize asks of a number that the test passed, and what it gives
pub cast_ok : (x : ℤ) → SFits w64 x → is_negative x ≡ false → T (non_neg (to_z w64 (of_z w64 x))) × Fits w64 (nat_abs (to_z w64 (of_z w64 x)))
cast_ok x f e = rw (to_z-of_z {w = w64} f) (non_neg_is x e, Fits-nat_abs tt f)

pub cast_is : (x : ℤ) → SFits w64 x → is_negative x ≡ false → nat_abs (to_z w64 (of_z w64 x)) ≡ nat_of x
cast_is x f e = rw (to_z-of_z {w = w64} f) (nat_abs_nat_of x e)

-- ---- equal bits

pub same_bits : (y z : ℤ) → mag y < 2 ^ 63 → mag z < 2 ^ 63 → of_z w64 y ≡ of_z w64 z → y ≡ z
same_bits y z g h e = sym (whole y g) ∙ ap (to_z w64) e ∙ whole z h

-- a number whose bits are those of a small natural number is that number
pub nat_of_bits : (z : ℤ) (k : ℕ) → mag z < 2 ^ 63 → k < 2 ^ 63 → of_z w64 z ≡ k → z ≡ pos k
nat_of_bits z k h l e = same_bits z (pos k) h l e

-- the code's test z == k, as `equals` gives it
pub equal : (z : ℤ) (k : ℕ) → mag z < 2 ^ 63 → k < 2 ^ 63 → of_z w64 z ≡ k → equals k z ≡ true
equal z k h l e = rw (nat_of_bits z k h l e) (eq-eqb k k refl)

pub unequal : (z : ℤ) (k : ℕ) → (of_z w64 z ≡ k → ⊥) → equals k z ≡ false
unequal (pos n) k f = ne_eqb n k f
unequal (negsuc n) k f = refl

-- a cell that is read as it stands, where it is known to be a natural number
module _ (z : ℤ) (m : ℕ) (e : z ≡ pos m) (h : mag z < 2 ^ 63) where
  pub cast_natural : T (non_neg (to_z w64 (of_z w64 z))) × Fits w64 (nat_abs (to_z w64 (of_z w64 z)))
  cast_natural = cast_ok z (sfits_of h) (ap is_negative e)

  pub is_natural : nat_abs (to_z w64 (of_z w64 z)) ≡ m
  is_natural = cast_is z (sfits_of h) (ap is_negative e) ∙ ap nat_of e
