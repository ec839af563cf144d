use mathlib.Core.Bool.{false}
use Rattle.kinds.specs.GivesValues.{gives_values}
use Rattle.kinds.proofs.ByCode.{by_code, gives_none}
use Rattle.kinds.proofs.gives_values.Goals as goal

pub returns : goal.returns
returns c = by_code gives_values false c.is_some_and.result c.args.code (gives_none c.args.code) c.of_code.result c.of_code.ensures c.is_some_and.ensures
