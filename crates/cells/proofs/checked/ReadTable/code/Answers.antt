use Rattle.cells.proofs.Signed.{cast_natural, is_natural}
use Rattle.cells.proofs.Accepted.{kind_cell}
use Rattle.cells.proofs.checked.ReadTable.code.Goals as goal

pub overflow_cast-result : goal.overflow_cast-result
overflow_cast-result c = cast_natural _ _ (kind_cell _ _ c.args.self.accepted _ c.requires.0 c.requires.1) c.result-1.given

pub returns : goal.returns
returns c = is_natural _ _ (kind_cell _ _ c.args.self.accepted _ c.requires.0 c.requires.1) c.result-1.given
