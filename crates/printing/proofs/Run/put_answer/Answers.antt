use Rattle.printing.specs.Print.{columns_line}
use Rattle.printing.proofs.Writing.{puts_then}
use Rattle.printing.proofs.Run.put_answer.Goals as goal

pub returns : goal.returns
unfolding columns_line
returns c = puts_then c.put_all.ensures c.put_lines.ensures
