-- Worked examples, which antt computes.
use mathlib.Core.Path.{◌≡◌, refl}
use Prim.Native.Nat.{ℕ}
use lib.IntN.{ℤ, pos, neg_ℤ}
use Rattle.std.specs.Prelude.{Some, None, Ok, Err}
use Rattle.cells.specs.Quoted.{bytes_of}
use Rattle.numbers.specs.Rounding.{rounded, quotient}
use Rattle.numbers.specs.Arithmetic.{ranged_of, result, calculated}
use Rattle.numbers.specs.Decimal.{all_digits, digits_value, digits_of, decimal_of, number_of}
use Rattle.numbers.specs.declared.Arithmetic.TheVariants.{HalvesAway}
use Rattle.kinds.specs.declared.Operation.TheVariants.{Sum, Difference, Product, Quotient}
use Rattle.numbers.specs.declared.Failure.TheVariants.{OutOfRange, ZeroDivisor}

abbrev minus : ℕ → ℤ
minus n = neg_ℤ (pos n)

operations :
    (calculated HalvesAway Sum (pos 1000000000) (pos 1) ≡ Err OutOfRange)
    × (calculated HalvesAway Difference (minus 5) (minus 7) ≡ Ok (pos 2))
    × (calculated HalvesAway Product (minus 100000) (pos 10000) ≡ Ok (minus 1000000000))
    × (calculated HalvesAway Product (pos 100000) (pos 10001) ≡ Err OutOfRange)
    × (calculated HalvesAway Quotient (pos 7) (pos 0) ≡ Err ZeroDivisor)
    × (calculated HalvesAway Quotient (pos 7) (pos 2) ≡ Ok (pos 4))
unfolding rounded quotient ranged_of result calculated
operations = (refl, refl, refl, refl, refl, refl)

numbers :
    (number_of (bytes_of "0") ≡ Some (pos 0))
    × (number_of (bytes_of "-325") ≡ Some (minus 325))
    × (number_of (bytes_of "-1000000000") ≡ Some (minus 1000000000))
    × (number_of (bytes_of "1000000000") ≡ Some (pos 1000000000))
    × (number_of (bytes_of "-0") ≡ None)
    × (number_of (bytes_of "00") ≡ None)
    × (number_of (bytes_of "-05") ≡ None)
    × (number_of (bytes_of "+1") ≡ None)
    × (number_of (bytes_of "1000000001") ≡ None)
    × (number_of (bytes_of "12a") ≡ None)
    × (number_of (bytes_of "") ≡ None)
unfolding all_digits digits_value digits_of decimal_of number_of
numbers = (refl, refl, refl, refl, refl, refl, refl, refl, refl, refl, refl)
