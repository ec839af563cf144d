use Rattle.cells.specs.Characters.{space}
use Rattle.cells.proofs.Signed.{whole}
use Rattle.numbers.specs.Numerals.{decimal, integer}
use Rattle.printing.proofs.Lines.{state_is, number_is, steps_is}
use Rattle.printing.proofs.Writing.{field_then}
use Rattle.printing.proofs.Run.put_results.Goals as goal

pub returns : goal.returns
returns c =
    let r = c.args.self.now.results.now in
    let number = rw (whole c.result_at.result c.result_at.type_inv) at c.put_number.ensures in
    let fields = field_then (integer c.result_at.result) space number c.put_count-2.ensures in
    let line = field_then (decimal c.count_at.result) space c.put_count.ensures fields in
    rw (state_is r c.args.label, number_is r c.args.label, steps_is r c.args.label)
    (rw (← c.count_at.ensures, ← c.count_at-2.ensures, ← c.result_at.ensures) line)
