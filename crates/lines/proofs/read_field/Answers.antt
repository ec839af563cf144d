-- One clause of the definition a form.
use mathlib.Core.Path.{◌∙◌, sym, ap}
use Rattle.lines.specs.Fields.{blank_if, field_of}
use Rattle.lines.proofs.Fields.{then_blank, label_form}
use Rattle.lines.proofs.read_field.Goals as goal

pub returns-in-Missing : goal.returns-in-Missing
unfolding field_of
returns-in-Missing c = rw c.in-Missing.is (c.then_some.ensures ∙ then_blank _ ∙ ap blank_if c.is_dash.ensures)

pub returns-in-Name : goal.returns-in-Name
unfolding field_of
returns-in-Name c = rw c.in-Name.is (c.then_some-in-Name.ensures ∙ then_blank _ ∙ ap blank_if c.is_name.ensures)

pub returns-in-Path : goal.returns-in-Path
unfolding field_of
returns-in-Path c = rw c.in-Path.is (c.then_some-in-Path.ensures ∙ then_blank _ ∙ ap blank_if c.is_path.ensures)

pub returns-in-Group : goal.returns-in-Group
returns-in-Group c = c.label_field.ensures ∙ sym (label_form c.args.form c.args.n c.args.field.now c.in-Group.is)

pub returns-in-Number : goal.returns-in-Number
unfolding field_of
returns-in-Number c = rw c.in-Number.is c.read_number.ensures
