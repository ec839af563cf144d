-- Order 4: "a list of pairs (label of an N line, new number), applied in turn". The list's cells are ps: label, number, label, number.
-- Pairs are counted from 1; t is a table.
use Rattle.std.specs.Prelude.{◌≡◌, List, ℕ, zero, suc, ◌+◌, ◌*◌, ◌/◌, ◌≤◌, ℤ, pos, nat_abs, length}
use Rattle.kinds.specs.Kinds.{number_code}
use Rattle.cells.specs.Cells.{int_at, nat_at}
use Rattle.cells.specs.Limits.{number_limit}
use Rattle.cells.specs.Table.{kind, with_number}

-- "an odd last cell not counted"
abbrev pub pair_count : List ℤ → ℕ
pair_count ps = length ps / 2

-- the label and the number of a pair. A label may be any integer; a negative one is taken as 0, which is no line's either.
abbrev pub pair_label : List ℤ → ℕ → ℕ
pair_label ps zero = 0
pair_label ps (suc k) = nat_at ps (2 * k)

abbrev pub pair_number : List ℤ → ℕ → ℤ
pair_number ps zero = pos 0
pair_number ps (suc k) = int_at ps (2 * k + 1)

-- pair k names an N line, and its number is in range
pub record PairRight (t ps : List ℤ) (k : ℕ) : Type 0 where
  pub line : kind t (pair_label ps k) ≡ number_code
  pub number : nat_abs (pair_number ps k) ≤ number_limit

abbrev pub PairsRight : List ℤ → List ℤ → Type 0
PairsRight t ps = (k : ℕ) → 1 ≤ k → k ≤ pair_count ps → PairRight t ps k

-- "cell a shows each new number": the table after the first k pairs
abbrev pub with_pairs : List ℤ → ℕ → List ℤ → List ℤ
with_pairs ps zero t = t
with_pairs ps (suc k) t = with_number (pair_label ps (suc k)) (pair_number ps (suc k)) (with_pairs ps k t)
