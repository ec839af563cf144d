-- By the kind of its code.
use mathlib.Core.Path.{◌∙◌, sym}
use Rattle.retouching.proofs.Rows.{number_some, number_none}
use Rattle.retouching.proofs.is_number.Goals as goal

pub returns-in-Some : goal.returns-in-Some
returns-in-Some c = c.eq.ensures ∙ number_some _ _ (sym c.kind_at.ensures ∙ c.in-Some.is)

pub returns-in-None : goal.returns-in-None
returns-in-None c = sym (number_none _ (sym c.kind_at.ensures ∙ c.in-None.is))
