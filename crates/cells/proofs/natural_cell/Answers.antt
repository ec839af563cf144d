use Rattle.cells.proofs.Signed.{cast_natural, is_natural}
use Rattle.cells.proofs.natural_cell.Goals as goal

pub overflow_cast-result : goal.overflow_cast-result
overflow_cast-result c = cast_natural _ _ c.requires.3 c.result-1.given

pub returns : goal.returns
returns c = is_natural _ _ c.requires.3 c.result-1.given
