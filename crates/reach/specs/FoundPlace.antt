-- A place, 0 for none, as what is found.
use Rattle.std.specs.Prelude.{ℕ, zero, suc, Option, Some, None}

abbrev pub found_place : ℕ → Option ℕ
found_place zero = None
found_place (suc p) = Some (suc p)
