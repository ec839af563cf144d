use Rattle.printing.proofs.Writing.{puts_then}
use Rattle.printing.proofs.Writer.put_count.Goals as goal

pub returns : goal.returns
returns c = puts_then c.put_decimal.ensures c.put.ensures
