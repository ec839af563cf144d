-- Laws of the four operations: every result fits a cell, the range test, and one proof of the code's arms over the operation.
use mathlib.Core.Path.{◌≡◌, refl, sym, ap, subst}
use mathlib.Core.Bool.{Bool, true, false, cond}
use Prim.Native.Nat.{◌*◌, ◌≤◌}
use native.Mathlib.Omega.{arith}
use native.Mathlib.Nat.{mul-le-mul}
use borrow.Author.Tests.{leb-true}
use lib.IntN.{ℤ, neg_ℤ, nat_abs}
use mir.Syntax.{w64}
use mir.Val.{to_z, of_z, SFits}
use mir.Facts.{to_z-of_z}
use Rattle.std.specs.Prelude.{Result, Ok, Err}
use Rattle.cells.proofs.Signed.{nat_abs_neg, fits_by}
use Rattle.numbers.specs.Range.{in_range}
use Rattle.cells.specs.Limits.{number_limit}
use Rattle.numbers.specs.Arithmetic.{tie_rule, ranged_of, divides_by_zero, result, calculated}
use Rattle.numbers.specs.declared.Arithmetic.{Arithmetic}
use Rattle.kinds.specs.declared.Operation.{Operation}
use Rattle.kinds.specs.declared.Operation.TheVariants.{Sum, Difference, Product, Quotient}
use Rattle.numbers.specs.declared.Failure.{Failure}
use Rattle.numbers.specs.declared.Failure.TheVariants.{OutOfRange, ZeroDivisor}
use Rattle.numbers.proofs.Sizes.{add_size, mul_size}
use Rattle.numbers.proofs.Rounding.{quotient_size}

-- every result of two numbers of a sheet fits a cell
pub result_fits : (α : Arithmetic) (op : Operation) (a b : ℤ) → nat_abs a ≤ number_limit → nat_abs b ≤ number_limit → SFits w64 (result α op a b)
unfolding result
result_fits α op a b ha hb = fits_by (result α op a b) (number_limit * number_limit) (small op) tt
  where
    small : (op : Operation) → nat_abs (result α op a b) ≤ number_limit * number_limit
    small Sum = omega (arith, add_size a b)
    small Difference = omega (arith, add_size a (neg_ℤ b), nat_abs_neg b)
    small Product = rw mul_size (mul-le-mul ha hb)
    small Quotient = omega (arith, quotient_size (tie_rule α) a b)

-- ---- what is ranged, by the range test

pub in_number : (x : ℤ) → in_range x ≡ true → Ok x ≡ ranged_of x
unfolding ranged_of
in_number x e = ap (λ b. cond b (Ok x) (Err OutOfRange)) (sym e)

pub out_of_range_lem : (x : ℤ) → in_range x ≡ false → Err OutOfRange ≡ ranged_of x
unfolding ranged_of
out_of_range_lem x e = ap (λ b. cond b (Ok x) (Err OutOfRange)) (sym e)

-- ---- a calculated number is in range

abbrev Bounded : Result ℤ Failure → Type 0
Bounded (Ok z) = nat_abs z ≤ number_limit
Bounded (Err e) = Unit {0}

ranged_bounded : (x : ℤ) → Bounded (ranged_of x)
unfolding ranged_of
ranged_bounded x = go (in_range x) refl
  where
    go : (t : Bool) → in_range x ≡ t → Bounded (cond t (Ok x) (Err OutOfRange))
    go true e = leb-true (nat_abs x) number_limit e
    go false e = tt

bounded : (α : Arithmetic) (op : Operation) (a b : ℤ) → Bounded (calculated α op a b)
unfolding calculated
bounded α op a b = go (divides_by_zero op b)
  where
    go : (t : Bool) → Bounded (cond t (Err ZeroDivisor) (ranged_of (result α op a b)))
    go true = tt
    go false = ranged_bounded (result α op a b)

pub calculated_size : (α : Arithmetic) (op : Operation) (a b z : ℤ) → calculated α op a b ≡ Ok z → nat_abs z ≤ number_limit
calculated_size α op a b z e = subst Bounded e (bounded α op a b)

-- ---- an arm of the code, whatever its operation: it ranges a number z that is the result

pub calculated_by : (α : Arithmetic) (op arm : Operation) (a b z : ℤ) {r : Result ℤ Failure} → op ≡ arm → divides_by_zero arm b ≡ false
    → z ≡ result α arm a b → r ≡ ranged_of z → r ≡ calculated α op a b
unfolding calculated
calculated_by α op arm a b z p q e f = rw (p, q, ← e) f

-- the operands and the result are read back from their bits
module _ (α : Arithmetic) (arm : Operation) (a b : ℤ) (fa : SFits w64 a) (fb : SFits w64 b) (ha : nat_abs a ≤ number_limit) (hb : nat_abs b ≤ number_limit) where
  pub arm_is : (op : Operation) {r : Result ℤ Failure} → op ≡ arm → divides_by_zero arm b ≡ false
      → r ≡ ranged_of (to_z w64 (of_z w64 (result α arm (to_z w64 (of_z w64 a)) (to_z w64 (of_z w64 b)))))
      → r ≡ calculated α op a b
  arm_is op p q e = calculated_by α op arm a b _ p q (rw (to_z-of_z {w = w64} fa, to_z-of_z {w = w64} fb) (to_z-of_z {w = w64} (result_fits α arm a b ha hb))) e
