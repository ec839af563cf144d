-- The nearest whole number to a / b. The tie rule, what becomes of a half, is a parameter.
use Rattle.std.specs.Prelude.{ℕ, ◌+◌, ◌*◌, ◌/◌, ◌%◌, Bool, cond, not, ltb, ℤ, nat_abs}
use Rattle.std.specs.Bool.{beq}
use Rattle.cells.specs.Cells.{is_negative, with_sign}
use Rattle.numbers.specs.declared.Tie.{Tie}
use Rattle.numbers.specs.declared.Tie.TheVariants.{Away, Even}

-- what a half that falls between q and q + 1 adds to q
abbrev pub on_tie : Tie → ℕ → ℕ
on_tie Away q = 1
on_tie Even q = q % 2

-- what rounding adds to a quotient q with remainder r of a division by d
abbrev pub round_up : Tie → ℕ → ℕ → ℕ → ℕ
round_up tie q r d = cond (ltb (2 * r) d) 0 (cond (ltb d (2 * r)) 1 (on_tie tie q))

-- n / d to the nearest whole number
unfoldable pub rounded : Tie → ℕ → ℕ → ℕ
rounded tie n d = n / d + round_up tie (n / d) (n % d) d

abbrev pub signs_differ : ℤ → ℤ → Bool
signs_differ a b = not (beq (is_negative a) (is_negative b))

-- a / b to the nearest whole number, b not 0; with Away, document 01's "halves away from zero"; with Even, order 5's rule, which "rounds
-- a half to the even neighbour". "Both come from one definition with the tie rule as its parameter."
unfoldable pub quotient : Tie → ℤ → ℤ → ℤ
quotient tie a b = with_sign (signs_differ a b) (rounded tie (nat_abs a) (nat_abs b))
