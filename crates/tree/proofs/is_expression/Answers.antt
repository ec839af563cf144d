-- By the kind of its code.
use mathlib.Core.Path.{◌∙◌, sym}
use Rattle.tree.proofs.Coded.{expression_some, expression_none}
use Rattle.tree.proofs.is_expression.Goals as goal

pub returns-in-Some : goal.returns-in-Some
returns-in-Some c = c.is_expression.ensures ∙ expression_some _ _ (sym c.kind_at.ensures ∙ c.in-Some.is)

pub returns-in-None : goal.returns-in-None
returns-in-None c = sym (expression_none _ (sym c.kind_at.ensures ∙ c.in-None.is))
