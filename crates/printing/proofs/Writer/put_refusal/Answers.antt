use Rattle.cells.specs.Characters.{space}
use Rattle.refusals.specs.Rows.{row_number}
use Rattle.numbers.specs.Numerals.{decimal}
use Rattle.printing.specs.Print.{refusal_line}
use Rattle.printing.proofs.Writing.{puts_then, field_then}
use Rattle.printing.proofs.Writer.put_refusal.Goals as goal

pub returns : goal.returns
unfolding refusal_line
returns c =
    let row = rw c.number.ensures at c.put_count.ensures in
    puts_then c.put_all.ensures (field_then (decimal (row_number c.args.refusal.row)) space row c.put_count-2.ensures)
