use mathlib.Core.Path.{◌∙◌, sym, ap}
use mathlib.Core.Bool.{not}
use Rattle.kinds.proofs.Enumerated.{expression_not}
use Rattle.kinds.proofs.Kind.is_expression.Goals as goal

pub returns : goal.returns
returns c = ap not c.is_definition.ensures ∙ sym (expression_not c.args.self)
