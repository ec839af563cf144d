-- Sum, difference, product and quotient of a sheet's numbers, by the arithmetic that the sheet is evaluated by.
use Rattle.std.specs.Prelude.{Bool, false, cond, Result, Ok, Err, ℤ, ◌+ℤ◌, ◌-ℤ◌, ◌*ℤ◌}
use Rattle.cells.specs.Cells.{equals}
use Rattle.numbers.specs.Range.{in_range}
use Rattle.numbers.specs.Rounding.{quotient}
use Rattle.numbers.specs.declared.Tie.{Tie}
use Rattle.numbers.specs.declared.Tie.TheVariants.{Away, Even}
use Rattle.numbers.specs.declared.Arithmetic.{Arithmetic}
use Rattle.numbers.specs.declared.Arithmetic.TheVariants.{HalvesAway, HalvesToEven}
use Rattle.kinds.specs.declared.Operation.{Operation}
use Rattle.kinds.specs.declared.Operation.TheVariants.{Sum, Difference, Product, Quotient}
use Rattle.numbers.specs.declared.Failure.{Failure}
use Rattle.numbers.specs.declared.Failure.TheVariants.{OutOfRange, ZeroDivisor}

-- the tie rule of an arithmetic, and the arithmetic that rounds by a tie rule
abbrev pub tie_rule : Arithmetic → Tie
tie_rule HalvesAway = Away
tie_rule HalvesToEven = Even

abbrev pub rounding_by : Tie → Arithmetic
rounding_by Away = HalvesAway
rounding_by Even = HalvesToEven

-- x where it is a number of a sheet, else why not
unfoldable pub ranged_of : ℤ → Result ℤ Failure
ranged_of x = cond (in_range x) (Ok x) (Err OutOfRange)

abbrev pub divides_by_zero : Operation → ℤ → Bool
divides_by_zero Sum b = false
divides_by_zero Difference b = false
divides_by_zero Product b = false
divides_by_zero Quotient b = equals 0 b

-- the result, of whatever size
unfoldable pub result : Arithmetic → Operation → ℤ → ℤ → ℤ
result α Sum a b = a +ℤ b
result α Difference a b = a -ℤ b
result α Product a b = a *ℤ b
result α Quotient a b = quotient (tie_rule α) a b

unfoldable pub calculated : Arithmetic → Operation → ℤ → ℤ → Result ℤ Failure
calculated α op a b = cond (divides_by_zero op b) (Err ZeroDivisor) (ranged_of (result α op a b))
