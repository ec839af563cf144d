-- The kind that is wanted, then its code.
use Rattle.std.specs.Prelude.{None}
use Rattle.kinds.specs.Kinds.{wanted_by}
use Rattle.kinds.specs.Coded.{kind_with}
use Rattle.kinds.proofs.ByCode.{by_code, wanted_none, wanted_zero}
use Rattle.kinds.proofs.wanted_by.Goals as goal

pub returns : goal.returns
returns c =
    by_code (λ x. x) 0 c.map_or.result (wanted_by c.args.code) (wanted_zero c.args.code) c.and_then.result
    (by_code (λ x. kind_with (wanted_by x)) None c.and_then.result c.args.code (wanted_none c.args.code) c.of_code.result c.of_code.ensures c.and_then.ensures)
    c.map_or.ensures
