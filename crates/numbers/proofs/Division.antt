-- Signed division, which rounds toward zero, and its remainder, as the code has them: of operands read back from their bits.
use mathlib.Core.Path.{◌≡◌, refl}
use Prim.Native.Nat.{suc, ◌/◌, ◌%◌, ◌≤◌}
use native.Mathlib.Omega.{arith}
use native.Mathlib.Nat.{mod-le, div-le_self}
use lib.IntN.{ℤ, pos, negsuc, nat_abs}
use lib.Signed.{quot_z, rem_z}
use mir.Syntax.{w64}
use mir.Val.{to_z, of_z, SFits}
use mir.Facts.{to_z-of_z}
use Rattle.cells.proofs.Signed.{nat_abs_neg, fits_by}
use Rattle.cells.specs.Limits.{number_limit}

quot_size : (a b : ℤ) → nat_abs (quot_z a b) ≡ nat_abs a / nat_abs b
quot_size (pos a) (pos b) = refl
quot_size (pos a) (negsuc b) = nat_abs_neg (pos (a / suc b))
quot_size (negsuc a) (pos b) = nat_abs_neg (pos (suc a / b))
quot_size (negsuc a) (negsuc b) = refl

rem_size : (a b : ℤ) → nat_abs (rem_z a b) ≡ nat_abs a % nat_abs b
rem_size (pos a) b = refl
rem_size (negsuc a) b = nat_abs_neg (pos (suc a % nat_abs b))

module _ (a b : ℤ) (fa : SFits w64 a) (fb : SFits w64 b) (h : nat_abs a ≤ number_limit) where
  pub quot_fits : SFits w64 (quot_z (to_z w64 (of_z w64 a)) (to_z w64 (of_z w64 b)))
  quot_fits =
      rw (to_z-of_z {w = w64} fa, to_z-of_z {w = w64} fb)
      (fits_by (quot_z a b) number_limit (omega (arith, quot_size a b, div-le_self (nat_abs a) (nat_abs b))) tt)

  pub quot_read : nat_abs (to_z w64 (of_z w64 (quot_z (to_z w64 (of_z w64 a)) (to_z w64 (of_z w64 b))))) ≡ nat_abs a / nat_abs b
  quot_read = rw (to_z-of_z {w = w64} quot_fits, to_z-of_z {w = w64} fa, to_z-of_z {w = w64} fb) (quot_size a b)

  rem_fits : SFits w64 (rem_z (to_z w64 (of_z w64 a)) (to_z w64 (of_z w64 b)))
  rem_fits =
      rw (to_z-of_z {w = w64} fa, to_z-of_z {w = w64} fb)
      (fits_by (rem_z a b) number_limit (omega (arith, rem_size a b, mod-le (nat_abs a) (nat_abs b))) tt)

  pub rem_read : nat_abs (to_z w64 (of_z w64 (rem_z (to_z w64 (of_z w64 a)) (to_z w64 (of_z w64 b))))) ≡ nat_abs a % nat_abs b
  rem_read = rw (to_z-of_z {w = w64} rem_fits, to_z-of_z {w = w64} fa, to_z-of_z {w = w64} fb) (rem_size a b)
