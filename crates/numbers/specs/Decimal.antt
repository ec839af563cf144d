-- Numbers as a field writes them, in bytes.
use Rattle.std.specs.Prelude.{ℕ, ◌+◌, ◌*◌, ◌-◌, Bool, true, false, cond, not, ◌&&◌, List, [], ◌∷◌, Option, Some, None, ℤ, leb, eqb}
use Rattle.cells.specs.Cells.{with_sign}
use Rattle.cells.specs.Limits.{number_limit}
use Rattle.cells.specs.Characters.{hyphen, digit_zero, digit_nine}

abbrev pub is_digit : ℕ → Bool
is_digit c = leb digit_zero c && leb c digit_nine

unfoldable pub all_digits : List ℕ → Bool
all_digits [] = true
all_digits (c ∷ f) = is_digit c && all_digits f

-- the decimal value of digits that stand after digits of the value v
unfoldable pub digits_value : ℕ → List ℕ → ℕ
digits_value v [] = v
digits_value v (c ∷ f) = digits_value (10 * v + (c - digit_zero)) f

-- not empty, and no leading zero: a 0 in front stands alone
abbrev pub no_leading_zero : List ℕ → Bool
no_leading_zero [] = false
no_leading_zero (c ∷ []) = true
no_leading_zero (c ∷ d ∷ f) = not (eqb c digit_zero)

-- digits, after digits of the value v, whose value is at most max
unfoldable pub digits_of : ℕ → ℕ → List ℕ → Option ℕ
digits_of max v f = cond (all_digits f && leb (digits_value v f) max) (Some (digits_value v f)) None

-- decimal, no leading zero, at most max
unfoldable pub decimal_of : ℕ → List ℕ → Option ℕ
decimal_of max f = cond (no_leading_zero f) (digits_of max 0 f) None

-- a decimal after its sign; there is no `-0`
abbrev pub signed_of : Bool → Option ℕ → Option ℤ
signed_of negative (Some v) = cond (negative && eqb v 0) None (Some (with_sign negative v))
signed_of negative None = None

-- a *number* of document 01: decimal, -1000000000 to 1000000000, no leading zero, no `-0`, no plus sign
unfoldable pub number_of : List ℕ → Option ℤ
number_of [] = None
number_of (c ∷ f) = cond (eqb c hyphen) (signed_of true (decimal_of number_limit f)) (signed_of false (decimal_of number_limit (c ∷ f)))
