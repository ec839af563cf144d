-- The states of a result, with document 01's word for each.
use Rattle.std.specs.Prelude.{ℕ}

-- "number"
abbrev pub has_number : ℕ
has_number = 1

-- "range"
abbrev pub out_of_range : ℕ
out_of_range = 2

-- "zero divisor"
abbrev pub zero_divisor : ℕ
zero_divisor = 3

-- "spent"
abbrev pub out_of_steps : ℕ
out_of_steps = 4

-- "deep"
abbrev pub too_deep : ℕ
too_deep = 5

abbrev pub last_state : ℕ
last_state = too_deep
