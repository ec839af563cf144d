-- The digits of a number from those of a tenth of it.
use mathlib.Core.Path.{◌≡◌, refl, ap}
use mathlib.Core.List.{List, [], ◌∷◌, ◌++◌}
use Prim.Native.Nat.{ℕ, zero, suc, ◌+◌, ◌/◌, ◌%◌, ◌≤◌, ◌<◌}
use native.Mathlib.Omega.{arith}
use Rattle.cells.specs.Characters.{digit_zero}
use Rattle.numbers.specs.Numerals.{digits, decimal}

-- more divisions than the number has digits bring out no more
enough : (k m n : ℕ) → n ≤ k → n ≤ m → digits k n ≡ digits m n
unfolding digits
enough zero zero n h g = refl
enough zero (suc m) zero h g = refl
enough zero (suc m) (suc n) h g = absurd (omega arith)
enough (suc k) zero zero h g = refl
enough (suc k) zero (suc n) h g = absurd (omega arith)
enough (suc k) (suc m) zero h g = refl
enough (suc k) (suc m) (suc n) h g = ap (λ (l : List ℕ). l ++ (digit_zero + suc n % 10) ∷ []) (enough k m (suc n / 10) (omega arith) (omega arith))

pub digits_none : digits 0 0 ≡ []
unfolding digits
digits_none = refl

pub digits_last : (n : ℕ) → 0 < n → digits n n ≡ digits (n / 10) (n / 10) ++ (digit_zero + n % 10) ∷ []
unfolding digits
digits_last zero h = absurd (omega arith)
digits_last (suc n) h = ap (λ (l : List ℕ). l ++ (digit_zero + suc n % 10) ∷ []) (enough n (suc n / 10) (suc n / 10) (omega arith) (omega arith))

pub decimal_zero : decimal 0 ≡ digit_zero ∷ []
unfolding decimal
decimal_zero = refl

pub decimal_digits : (n : ℕ) → 0 < n → decimal n ≡ digits n n
unfolding decimal
decimal_digits zero h = absurd (omega arith)
decimal_digits (suc n) h = refl
