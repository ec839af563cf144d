-- The turns of `open_groups`.
use mathlib.Core.Path.{refl}
use mathlib.Core.List.{List}
use Prim.Native.Nat.{ℕ, ◌+◌, ◌-◌, ◌≤◌, ◌<◌}
use native.Mathlib.Omega.{arith}
use lib.IntN.{ℤ}
use Rattle.std.specs.Prelude.{Option, Some, None}
use Rattle.groups.specs.Opened.{GroupOrders}

-- how many Groups may be left
abbrev pub left : ℕ → Option ℕ → ℕ
left n None = 0
left n (Some g) = n + 1 - g

pub left_less : (t : List ℤ) (n from g : ℕ) (r : Option ℕ) (next : List ℕ) → g ≤ n → g < from → GroupOrders t n from next r → left n r < left n (Some g)
left_less t n from g None next l h o = omega arith
left_less t n from g (Some r) next l h o = let s = o.stuck r refl in omega (arith, s.0, s.1)
