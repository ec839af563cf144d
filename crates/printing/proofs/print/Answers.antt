use Rattle.printing.proofs.Writing.{zeros_left}
use Rattle.printing.proofs.print.Goals as goal

pub returns : goal.returns
returns c = zeros_left _ c.args.out.now _ _ c.print_with-printed.ensures _ c.put_zeros.ensures
