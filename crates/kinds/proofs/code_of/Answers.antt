use Rattle.kinds.specs.Kinds.{code_of}
use Rattle.kinds.proofs.ByCode.{by_code, letter_zero}
use Rattle.kinds.proofs.code_of.Goals as goal

pub returns : goal.returns
returns c = by_code (λ x. x) 0 c.map_or.result (code_of c.args.letter) (letter_zero c.args.letter) c.of_letter.result c.of_letter.ensures c.map_or.ensures
