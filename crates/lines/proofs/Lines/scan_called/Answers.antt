-- Each answer by the form.
use Rattle.cells.specs.Characters.{space}
use Rattle.text.specs.Bytes.{same}
use Rattle.text.specs.Forms.{is_name, is_path}
use Rattle.lines.specs.Fields.{dash, field_of}
use Rattle.lines.proofs.Scanned.{name_scanned}
use Rattle.lines.proofs.Lines.scan_called.Goals as goal

pub returns-in-Missing : goal.returns-in-Missing
unfolding field_of
returns-in-Missing c =
    let args = c.args in
    name_scanned args.form args.self.text.now args.from space (λ w. same w dash) c.scan_missing.result (λ n w. rw c.in-Missing.is) c.scan_missing.ensures

pub returns-in-Name : goal.returns-in-Name
unfolding field_of
returns-in-Name c =
    let args = c.args in
    name_scanned args.form args.self.text.now args.from space is_name c.scan_name.result (λ n w. rw c.in-Name.is) c.scan_name.ensures

pub returns-in-Path : goal.returns-in-Path
unfolding field_of
returns-in-Path c =
    let args = c.args in
    name_scanned args.form args.self.text.now args.from space is_path c.scan_path.result (λ n w. rw c.in-Path.is) c.scan_path.ensures
