use mathlib.Core.Bool.{false}
use Rattle.kinds.specs.Kinds.{is_definition}
use Rattle.kinds.proofs.ByCode.{by_code, definition_none}
use Rattle.kinds.proofs.is_definition.Goals as goal

pub returns : goal.returns
returns c = by_code is_definition false c.is_some_and.result c.args.code (definition_none c.args.code) c.of_code.result c.of_code.ensures c.is_some_and.ensures
