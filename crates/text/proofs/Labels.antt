-- A label field's label is 1 to n, and its bytes are printed.
use mathlib.Core.Path.{◌≡◌}
use mathlib.Core.Bool.{true}
use mathlib.Core.Logic.{◌⊎◌, inl, inr}
use mathlib.Core.List.{List}
use Prim.Native.Nat.{ℕ, zero, suc, ◌≤◌}
use native.Mathlib.Omega.{arith}
use Rattle.std.specs.Prelude.{Option, Some, None}
use Rattle.numbers.specs.Decimal.{decimal_of}
use Rattle.numbers.proofs.Decimals.{decimal_size}
use Rattle.text.specs.Bytes.{all}
use Rattle.text.specs.Forms.{from_one, label_of}
use Rattle.text.proofs.Printed.{is_printed, decimal_printed}

from_one_lem : (d : Option ℕ) (v : ℕ) → from_one d ≡ Some v → (d ≡ Some v) × (1 ≤ v)
from_one_lem (Some zero) v e = absurd cc
from_one_lem (Some (suc w)) v e = let q : suc w ≡ v = cc in (e, omega arith)
from_one_lem None v e = absurd cc

pub label_is : (n : ℕ) (f : List ℕ) (v : ℕ) → decimal_of n f ≡ Some v → 1 ≤ v → label_of n f ≡ Some v
unfolding label_of
label_is n f zero e h = absurd (omega arith)
label_is n f (suc v) e h = rw e

pub label_none : (n : ℕ) (f : List ℕ) → (decimal_of n f ≡ None) ⊎ (decimal_of n f ≡ Some 0) → label_of n f ≡ None
unfolding label_of
label_none n f (inl e) = rw e
label_none n f (inr e) = rw e

module _ (n : ℕ) (f : List ℕ) (v : ℕ) (e : label_of n f ≡ Some v) where
  is : (decimal_of n f ≡ Some v) × (1 ≤ v)
  unfolding label_of
  is = from_one_lem (decimal_of n f) v e

  pub label_most : v ≤ n
  label_most = decimal_size n f v is.0

  pub label_printed : all is_printed f ≡ true
  label_printed = decimal_printed n f v is.0

  pub label_least : 1 ≤ v
  label_least = is.1
