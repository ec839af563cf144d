use Rattle.needs.proofs.Lifts.{rows_need}
use Rattle.needs.proofs.needs_of.Goals as goal

pub returns : goal.returns
returns c = rows_need _ _ c.args.sheet.accepted _ c.lift.ensures _ c.cut_diagonal.ensures
