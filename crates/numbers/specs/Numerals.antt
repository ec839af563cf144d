-- Numbers as they are written, in bytes: decimal, no leading zeros, `-` before a negative number.
use Rattle.std.specs.Prelude.{ℕ, zero, suc, ◌+◌, ◌/◌, ◌%◌, List, [], ◌∷◌, ◌++◌, ℤ, pos, negsuc}
use Rattle.cells.specs.Characters.{hyphen, digit_zero}

-- the digits of n, none of 0: those of n / 10, then the last one. At most k of them.
unfoldable pub digits : ℕ → ℕ → List ℕ
digits zero n = []
digits (suc k) zero = []
digits (suc k) (suc n) = digits k (suc n / 10) ++ (digit_zero + suc n % 10) ∷ []

-- n has at most n digits
unfoldable pub decimal : ℕ → List ℕ
decimal zero = digit_zero ∷ []
decimal (suc n) = digits (suc n) (suc n)

abbrev pub integer : ℤ → List ℕ
integer (pos n) = decimal n
integer (negsuc n) = hyphen ∷ decimal (suc n)
