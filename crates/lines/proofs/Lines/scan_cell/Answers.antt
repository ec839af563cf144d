-- Each answer by the form.
use mathlib.Core.Path.{ap}
use Rattle.text.specs.Forms.{label_of}
use Rattle.lines.specs.Fields.{blank_if, from_label, field_of}
use Rattle.lines.proofs.Fields.{label_form}
use Rattle.lines.proofs.Scanned.{cell_scanned}
use Rattle.lines.proofs.Lines.scan_cell.Goals as goal

pub returns-in_ok-end-in-Missing : goal.returns-in_ok-end-in-Missing
unfolding field_of
returns-in_ok-end-in-Missing c =
    let f = c.in_ok-end-in-Missing.ensures in
    record { at = f.0; holds = rw c.in-Missing.is (ap blank_if f.1) }

pub returns-in-Group : goal.returns-in-Group
returns-in-Group c =
    let args = c.args in
    cell_scanned args.form args.self.n args.self.text.now args.from args.stop (λ w. from_label (label_of args.self.n w)) c.label_scan.result
    (λ w. label_form args.form args.self.n w c.in-Group.is) c.label_scan.ensures
