use mathlib.Core.Path.{ap, ◌∙◌}
use Rattle.numbers.specs.Arithmetic.{rounding_by}
use Rattle.lines.proofs.arithmetic_of.Goals as goal

pub returns : goal.returns
returns c = c.rounding_by.ensures ∙ ap rounding_by c.tie_of.ensures
