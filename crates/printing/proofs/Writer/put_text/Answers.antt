use Rattle.printing.proofs.Writing.{puts_then}
use Rattle.printing.proofs.Writer.put_text.Goals as goal

pub returns : goal.returns
returns c = puts_then c.put_all.ensures c.put.ensures
