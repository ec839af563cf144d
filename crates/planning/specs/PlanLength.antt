-- How many labels a plan has.
use Rattle.std.specs.Prelude.{ℕ}
use Rattle.planning.specs.declared.Plan.{Plan}
use Rattle.planning.specs.declared.Plan.TheVariants.{Whole, Mixed}

abbrev pub plan_length : Plan → ℕ
plan_length (Whole n) = n
plan_length (Mixed n) = n
