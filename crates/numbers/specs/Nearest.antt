-- What "the nearest whole number to a / b" asks of a number, and what a half is, without a division.
use Rattle.std.specs.Prelude.{ℕ, ◌*◌, ◌%◌, ◌≤◌, ◌<◌, ◌≡◌, ℤ, nat_abs, ◌-ℤ◌, ◌*ℤ◌}
use Rattle.numbers.specs.declared.Tie.{Tie}
use Rattle.numbers.specs.declared.Tie.TheVariants.{Away, Even}

abbrev pub distance : ℤ → ℤ → ℕ
distance x y = nat_abs (x -ℤ y)

-- a / b is a half: some q * b is just half of the size of b away from a
abbrev pub IsHalf : ℤ → ℤ → Type 0
IsHalf a b = (q : ℤ) × (2 * distance (q *ℤ b) a ≡ nat_abs b)

-- which of the two neighbours of a half is taken: the one of larger size, or the even one
abbrev pub Preferred : Tie → ℤ → ℤ → ℤ → Type 0
Preferred Away a b q = nat_abs a < nat_abs (q *ℤ b)
Preferred Even a b q = nat_abs q % 2 ≡ 0

-- q * b is at most half of the size of b away from a, and where it is half of it away the tie rule takes q
pub record Nearest (tie : Tie) (a b q : ℤ) : Type 0 where
  pub near : 2 * distance (q *ℤ b) a ≤ nat_abs b
  pub half : 2 * distance (q *ℤ b) a ≡ nat_abs b → Preferred tie a b q
