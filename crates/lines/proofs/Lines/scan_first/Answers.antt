-- A number, or what the other fields may be.
use Rattle.cells.specs.Characters.{space}
use Rattle.numbers.specs.Decimal.{number_of}
use Rattle.lines.specs.Fields.{field_of}
use Rattle.lines.proofs.Scanned.{cell_scanned}
use Rattle.lines.proofs.Lines.scan_first.Goals as goal

pub returns-in-Number : goal.returns-in-Number
unfolding field_of
returns-in-Number c =
    let args = c.args in
    cell_scanned args.form args.self.n args.self.text.now args.from space number_of c.number_scan.result (λ w. rw c.in-Number.is) c.number_scan.ensures
