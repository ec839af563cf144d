-- The kind that the code looked up is that of the line's first field.
use mathlib.Core.Path.{◌∙◌, sym}
use Prim.Native.Nat.{◌+◌}
use native.Mathlib.Omega.{arith}
use Rattle.kinds.specs.Coded.{own_code}
use Rattle.lines.proofs.Fields.{field_at}
use Rattle.lines.proofs.Rows.{read_name_wrong, read_operands_wrong, read_right}
use Rattle.lines.proofs.Lines.read_cells.Goals as goal

pub returns-in_default : goal.returns-in_default
returns-in_default c =
    let args = c.args in
    let s = args.self.text.now in
    read_name_wrong args.self.n s args.from args.e c.requires.0 (own_code args.kind) c.fields-fields.result c.requires.1 c.fields-fields.ensures
    (sym (c.in_default.ensures ∙ field_at c.fields-fields.result.name args.self.n s (args.e.kind + 1) args.e.name))

pub returns-in_default-read_operands : goal.returns-in_default-read_operands
returns-in_default-read_operands c =
    let args = c.args in
    read_operands_wrong args.self.n args.self.text.now args.from args.e c.requires.0 (own_code args.kind) c.fields-fields.result c.requires.1 c.fields-fields.ensures
    (sym c.in_default-read_operands.ensures)

pub cells_of-requires : goal.cells_of-requires
cells_of-requires c =
    let f = c.requires.0 in
    (f.wide1, omega (arith, f.wide2, f.wide3, f.wide4, f.ending.inside))

pub returns : goal.returns
returns c =
    let args = c.args in
    let s = args.self.text.now in
    read_right args.self.n s args.from args.e c.requires.0 (own_code args.kind) c.fields-fields.result c.requires.1 c.fields-fields.ensures
    c.in-Some.field-0 c.in-Some-read_operands.operands c.cells_of.result
    (sym (c.in-Some.ensures ∙ field_at c.fields-fields.result.name args.self.n s (args.e.kind + 1) args.e.name)) (sym c.in-Some-read_operands.ensures) c.cells_of.ensures
