-- The kind of a label by the test of the code; and the room of a row.
use mathlib.Core.Path.{◌≡◌, refl, sym, ap, ◌∙◌, subst}
use mathlib.Core.Bool.{true, false}
use Prim.Native.Nat.{ℕ, suc, ◌+◌, ◌*◌, ◌≤◌}
use native.Mathlib.Omega.{arith}
use native.Mathlib.Nat.{mul-le-mul_right, suc-mul}
use denote.Enum.Bare.{sameb, same_true}
use Rattle.std.proofs.Common.{rules}
use Rattle.kinds.specs.contracts.Kind.{the_type}
use Rattle.kinds.specs.declared.Kind.{Kind}
use Rattle.kinds.specs.declared.Kind.TheVariants as kind
use Rattle.kinds.specs.Kinds.{value_code}
use Rattle.kinds.specs.Coded.{own_code}
use Rattle.kinds.proofs.Enumerated.{one_kind}
use Rattle.order.proofs.Tests.{both_ways}

pub is_value : (k : Kind) (c : ℕ) → own_code k ≡ c → sameb the_type k kind.Value ≡ true → c ≡ value_code
is_value k c e h = sym e ∙ ap own_code (same_true the_type (search rules) k kind.Value h)

pub no_value : (k : Kind) (c : ℕ) → own_code k ≡ c → sameb the_type k kind.Value ≡ false → c ≡ value_code → ⊥
no_value k c e h z =
    both_ways (sameb the_type k kind.Value) (subst (λ (m : Kind). sameb the_type m kind.Value ≡ true) (sym (one_kind k kind.Value (e ∙ z))) refl) h

pub row_room : (n w p size : ℕ) → p ≤ n → (n + 1) * w ≤ size → p * w + w ≤ size
row_room n w p size h g =
    let m : suc p * w ≤ suc n * w = mul-le-mul_right w (omega arith) in
    let e : (n + 1) * w ≡ suc n * w = ap (λ (x : ℕ). x * w) (omega arith) in
    omega (arith, suc-mul p w)
