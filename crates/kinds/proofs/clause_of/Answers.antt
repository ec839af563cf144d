use Rattle.kinds.specs.declared.Clause.TheVariants as clause
use Rattle.kinds.specs.Kinds.{clause_of}
use Rattle.kinds.proofs.ByCode.{by_code, clause_none}
use Rattle.kinds.proofs.clause_of.Goals as goal

pub returns : goal.returns
returns c = by_code clause_of clause.None c.map_or.result c.args.code (clause_none c.args.code) c.of_code.result c.of_code.ensures c.map_or.ensures
