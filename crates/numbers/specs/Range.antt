-- The range of a sheet's numbers.
use Rattle.std.specs.Prelude.{Bool, leb, ℤ, nat_abs}
use Rattle.cells.specs.Limits.{number_limit}

abbrev pub in_range : ℤ → Bool
in_range x = leb (nat_abs x) number_limit
