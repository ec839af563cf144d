-- A number's digits, and how many they are.
use mathlib.Core.Path.{◌≡◌, refl, sym}
use mathlib.Core.Bool.{true}
use mathlib.Core.List.{[], ◌∷◌}
use Prim.Native.Nat.{ℕ, zero, suc, ◌+◌, ◌*◌, ◌/◌, ◌%◌, ◌≤◌, ◌<◌}
use native.Mathlib.Omega.{arith}
use lib.IntN.{ℤ, pos, negsuc, nat_abs}
use Rattle.cells.specs.Characters.{hyphen, digit_zero}
use Rattle.cells.specs.Cells.{is_negative}
use Rattle.cells.proofs.Signed.{clash}
use lib.ListN.{length, length-append}
use Rattle.numbers.specs.Numerals.{digits, decimal, integer}
use Rattle.numbers.proofs.Numerals.{digits_none, digits_last, decimal_zero, decimal_digits}

pub integer_negative : (x : ℤ) → is_negative x ≡ true → integer x ≡ hyphen ∷ decimal (nat_abs x)
integer_negative (pos n) e = clash (sym e)
integer_negative (negsuc n) e = refl

-- ---- how many bytes a number takes

abbrev pub ten_to : ℕ → ℕ
ten_to zero = 1
ten_to (suc k) = 10 * ten_to k

digits_length : (k n : ℕ) → n < ten_to k → length (digits n n) ≤ k
digits_length zero n h = let e : n ≡ 0 = omega arith in rw (e, digits_none) (omega arith)
digits_length (suc k) zero h = rw digits_none (omega arith)
digits_length (suc k) (suc n) h =
    let d = suc n in
    rw (digits_last d (omega arith))
    (omega (arith, length-append (digits (d / 10) (d / 10)) ((digit_zero + d % 10) ∷ []), digits_length k (d / 10) (omega arith)))

pub decimal_length : (k n : ℕ) → n < ten_to (suc k) → length (decimal n) ≤ suc k
decimal_length k zero h = rw decimal_zero (omega arith)
decimal_length k (suc n) h = rw (decimal_digits (suc n) (omega arith)) (digits_length (suc k) (suc n) h)

pub integer_length : (k : ℕ) (x : ℤ) → nat_abs x < ten_to (suc k) → length (integer x) ≤ suc (suc k)
integer_length k (pos n) h = omega (arith, decimal_length k n h)
integer_length k (negsuc n) h = omega (arith, decimal_length k (suc n) h)
