-- What a kind gives to a plan.
use Rattle.std.specs.Prelude.{Bool, ◌&&◌, ℕ, eqb}
use Rattle.kinds.specs.Kinds.{is_definition, takes}

-- what has values in a plan: "F gives nothing", since its body is given an argument
unfoldable pub gives_values : ℕ → Bool
gives_values c = is_definition c && eqb (takes c) 0
