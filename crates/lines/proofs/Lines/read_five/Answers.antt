-- Rows 6 and 7 by the kind and the label.
use mathlib.Core.Path.{◌≡◌, ◌∙◌, sym}
use native.Mathlib.Omega.{arith}
use lib.Seq.{slice}
use Rattle.kinds.specs.Coded.{own_code}
use Rattle.kinds.proofs.Enumerated.{own_code_low, with_code}
use Rattle.lines.specs.Fields.{kind_code}
use Rattle.lines.proofs.Fields.{code_at, none_named}
use Rattle.lines.proofs.Rows.{line_kind, line_root, line_row}
use Rattle.lines.proofs.Lines.read_five.Goals as goal
use Rattle.lines.proofs.Lines.read_five.Goals.{In-Some}

-- the first field's code is that of the kind
named : (c : In-Some) →
    let args = c.args in
    own_code c.in-Some.kind ≡ kind_code (slice args.from args.e.kind args.self.text.now)
named c =
    let args = c.args in
    with_code _ c.in-Some.kind (sym c.in-Some.ensures) ∙ code_at args.self.text.now args.from args.e.kind

some : (c : In-Some) →
    let args = c.args in
    kind_code (slice args.from args.e.kind args.self.text.now) ≡ 0 → ⊥
some c = λ z. omega (arith, own_code_low c.in-Some.kind, named c, z)

pub returns-in_default : goal.returns-in_default
returns-in_default c =
    let args = c.args in
    line_kind args.self.n args.self.text.now args.from args.e c.requires args.label
    (sym (code_at args.self.text.now args.from args.e.kind) ∙ none_named _ c.in_default.ensures)

pub returns-then-label-eq1 : goal.returns-then-label-eq1
returns-then-label-eq1 c =
    let args = c.args in
    c.read_root.ensures ∙ line_root args.self.n args.self.text.now args.from args.e c.requires args.label (some (goal.at.returns-then-label-eq1 c).In-Some) c.if-label-eq1.true

pub read_cells-requires : goal.read_cells-requires
read_cells-requires c = (c.requires, named (goal.at.read_cells-requires c).In-Some)

pub returns : goal.returns
returns c =
    let args = c.args in
    c.read_cells.ensures ∙ line_row args.self.n args.self.text.now args.from args.e c.requires args.label (some (goal.at.returns c).In-Some) c.if-label-eq1.false
