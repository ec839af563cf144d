use mathlib.Core.Path.{◌∙◌}
use Rattle.text.proofs.Lowercase.{small_is}
use Rattle.text.proofs.same_but_case.Goals as goal

pub returns-else-x-y : goal.returns-else-x-y
returns-else-x-y c = c.eq_ignore_ascii_case.ensures ∙ rw (small_is c.args.x, small_is c.args.y)
