use Rattle.kinds.specs.Kinds.{takes}
use Rattle.kinds.proofs.ByCode.{by_code, takes_none}
use Rattle.kinds.proofs.takes.Goals as goal

pub returns : goal.returns
returns c = by_code takes 0 c.map_or.result c.args.code (takes_none c.args.code) c.of_code.result c.of_code.ensures c.map_or.ensures
