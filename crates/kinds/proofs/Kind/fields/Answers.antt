-- The code's table is the definition's.
use Rattle.kinds.specs.Kinds.{kinds}
use Rattle.kinds.specs.Coded.{own_code}
use Rattle.kinds.proofs.Codes.{fields_from_lem}
use Rattle.kinds.proofs.Enumerated.{own_code_low}
use Rattle.kinds.proofs.Kind.fields.Goals as goal

pub returns : goal.returns
unfolding kinds
returns c = rw c.code.ensures (fields_from_lem (own_code c.args.self) (own_code_low c.args.self))
