-- The verdict of a row that is told by its place.
use Rattle.std.specs.Prelude.{ℕ, Option, Some, None}
use Rattle.refusals.specs.declared.Row.{Row}
use Rattle.refusals.specs.Refusal.{Verdict, Fine, Refused}

abbrev pub told_at : Row → Option ℕ → Verdict
told_at r None = Fine
told_at r (Some p) = Refused r p
