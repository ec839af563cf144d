use mathlib.Core.Bool.{false}
use Rattle.kinds.specs.Kinds.{is_expression}
use Rattle.kinds.proofs.ByCode.{by_code, expression_none}
use Rattle.kinds.proofs.is_expression.Goals as goal

pub returns : goal.returns
returns c = by_code is_expression false c.is_some_and.result c.args.code (expression_none c.args.code) c.of_code.result c.of_code.ensures c.is_some_and.ensures
