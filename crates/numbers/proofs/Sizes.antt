-- The size of a sum and of a product.
use mathlib.Core.Path.{◌≡◌, refl}
use mathlib.Core.Bool.{Bool, true, false, cond}
use Prim.Native.Nat.{ℕ, suc, ◌+◌, ◌-◌, ◌*◌, ◌<◌, ◌≤◌}
use native.Mathlib.Omega.{arith}
use borrow.Author.Tests.{ltb-true}
use lib.Dec.{ltb}
use lib.IntN.{ℤ, pos, negsuc, nat_abs, sub_ℕ, ◌+ℤ◌, ◌*ℤ◌}
use Rattle.cells.proofs.Signed.{nat_abs_neg}

sub_size : (a b : ℕ) → nat_abs (sub_ℕ a b) ≤ a + b
sub_size a b = go (ltb a b) refl
  where
    go : (t : Bool) → ltb a b ≡ t → nat_abs (cond t (negsuc (b - suc a)) (pos (a - b))) ≤ a + b
    go true e = let h : a < b = ltb-true a b e in omega arith
    go false e = omega arith

pub add_size : (a b : ℤ) → nat_abs (a +ℤ b) ≤ nat_abs a + nat_abs b
add_size (pos a) (pos b) = omega arith
add_size (pos a) (negsuc b) = sub_size a (suc b)
add_size (negsuc a) (pos b) = omega (arith, sub_size b (suc a))
add_size (negsuc a) (negsuc b) = omega arith

pub mul_size : (a b : ℤ) → nat_abs (a *ℤ b) ≡ nat_abs a * nat_abs b
mul_size (pos a) (pos b) = refl
mul_size (pos a) (negsuc b) = nat_abs_neg (pos (a * suc b))
mul_size (negsuc a) (pos b) = nat_abs_neg (pos (suc a * b))
mul_size (negsuc a) (negsuc b) = refl
