use Rattle.cells.specs.Characters.{space}
use Rattle.numbers.specs.Numerals.{decimal}
use Rattle.printing.specs.Print.{name_field, value_line}
use Rattle.printing.proofs.Writing.{field_then}
use Rattle.printing.proofs.Run.put_line.Goals as goal

pub returns : goal.returns
unfolding value_line
returns c =
    let run = c.args.self.now in
    let third = field_then run.word.now space c.put_text.ensures c.put_results.ensures in
    let second = field_then (name_field run.text.now run.table.now c.args.label) space c.put_name.ensures third in
    field_then (decimal c.args.label) space c.put_count.ensures second
