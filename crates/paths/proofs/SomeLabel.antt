-- A label that is looked for, as an option and with 0 for none.
use mathlib.Core.Path.{◌≡◌, refl, ap, sym, ◌∙◌}
use mathlib.Core.Bool.{true, false}
use Prim.Native.Nat.{ℕ, zero, suc}
use native.Mathlib.Omega.{arith}
use lib.Dec.{eqb}
use borrow.Author.Tests.{ne_eqb}
use Rattle.std.specs.Prelude.{Option, Some, None, is_some, is_none}
use Rattle.std.specs.Option.{unwrap_or}
use Rattle.paths.specs.Buckets.{some_label}

pub some_is : (x : ℕ) → (x ≡ 0 → ⊥) → Some x ≡ some_label x
some_is zero z = absurd (z refl)
some_is (suc x) z = refl

-- what is told of the label by the option
pub label_is : (x m : ℕ) → some_label x ≡ Some m → (x ≡ m) × (m ≡ 0 → ⊥)
label_is zero m e = absurd cc
label_is (suc x) m e = let q : suc x ≡ m = cc in (q, λ z. absurd (not_zero (q ∙ z)))
  where
    not_zero : suc x ≡ 0 → ⊥
    not_zero f = omega arith

pub no_label : (x : ℕ) → some_label x ≡ None → x ≡ 0
no_label zero e = refl
no_label (suc x) e = absurd cc

-- as a cell holds it
or_zero : (x : ℕ) → unwrap_or (some_label x) 0 ≡ x
or_zero zero = refl
or_zero (suc x) = refl

pub or_found : {o : Option ℕ} {x : ℕ} → o ≡ some_label x → unwrap_or o 0 ≡ x
or_found {o} {x} e = ap (λ (y : Option ℕ). unwrap_or y 0) e ∙ or_zero x

-- whether there is one
pub no_zero : (x : ℕ) → is_some (some_label x) ≡ false → eqb x 0 ≡ true
no_zero zero e = refl
no_zero (suc x) e = absurd cc

pub some_not_zero : (x : ℕ) → is_some (some_label x) ≡ true → eqb x 0 ≡ false
some_not_zero zero e = absurd cc
some_not_zero (suc x) e = ne_eqb (suc x) 0 (λ z. omega arith)

pub none_is : (x : ℕ) → is_none (some_label x) ≡ eqb x 0
none_is zero = refl
none_is (suc x) = sym (ne_eqb (suc x) 0 (λ z. omega arith))
