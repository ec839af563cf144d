use mathlib.Core.Bool.{false}
use Rattle.kinds.specs.Kinds.{has_path}
use Rattle.kinds.proofs.ByCode.{by_code, path_none}
use Rattle.kinds.proofs.has_path.Goals as goal

pub returns : goal.returns
returns c = by_code has_path false c.is_some_and.result c.args.code (path_none c.args.code) c.of_code.result c.of_code.ensures c.is_some_and.ensures
