-- A scratch array of zeros has its length, and reads 0, past its end too.
use mathlib.Core.Path.{◌≡◌, refl}
use Prim.Native.Nat.{ℕ, zero, suc}
use lib.ListN.{length, get_or, replicate, length-replicate}

pub long : (k : ℕ) → length (replicate {0} {A = ℕ} k 0) ≡ k
long k = length-replicate {0} {A = ℕ} k 0

pub zero_at : (k i : ℕ) → get_or (replicate {0} {A = ℕ} k 0) i 0 ≡ 0
zero_at zero i = refl
zero_at (suc k) zero = refl
zero_at (suc k) (suc i) = zero_at k i
