use Rattle.kinds.specs.Kinds.{argument_place}
use Rattle.kinds.proofs.ByCode.{by_code, place_none}
use Rattle.kinds.proofs.argument_place.Goals as goal

pub returns : goal.returns
returns c = by_code argument_place 0 c.map_or.result c.args.code (place_none c.args.code) c.of_code.result c.of_code.ensures c.map_or.ensures
