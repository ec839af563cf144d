-- What is found, field by field.
use mathlib.Core.Path.{◌≡◌, sym}
use Prim.Native.Nat.{◌+◌, ◌<◌}
use native.Mathlib.Omega.{arith}
use Rattle.std.proofs.Common.{rules}
use lib.ListN.{length, get_or}
use Rattle.kinds.specs.Kinds.{code_of}
use Rattle.kinds.specs.Coded.{own_code}
use Rattle.kinds.proofs.Enumerated.{own_code_low, with_code}
use Rattle.text.proofs.Scanned.{after_space}
use Rattle.lines.proofs.Scanned.{after_letter, after_kind, line_right}
use Rattle.lines.proofs.Lines.quick_line.Goals as goal
use Rattle.lines.proofs.Lines.quick_line.Goals.{In_ok-kind, In_ok-name}

-- the letter names the kind
named : (c : In_ok-kind) →
    let args = c.args in
    own_code c.in_ok-kind.kind ≡ code_of (get_or args.self.text.now args.from 0)
named c = with_code _ c.in_ok-kind.kind (sym c.in_ok-kind.ensures)

some : (c : In_ok-kind) →
    let args = c.args in
    code_of (get_or args.self.text.now args.from 0) ≡ 0 → ⊥
some c = λ z. omega (arith, own_code_low c.in_ok-kind.kind, named c, z)

-- the space after it stands inside the text, and so does the name field
next_kind : (c : In_ok-kind) →
    let args = c.args in
    args.from + 1 < length args.self.text.now
next_kind c =
    after_letter c.args.self.text.now c.args.self.ends c.args.from (some c) c.requires

pub bounds-self-after : goal.bounds-self-after
bounds-self-after c = next_kind (goal.at.bounds-self-after c).In_ok-kind

pub scan_called-requires : goal.scan_called-requires
scan_called-requires c = after_kind c.args.self.text.now c.args.self.ends c.args.from (some (goal.at.scan_called-requires c).In_ok-kind) c.requires c.if-self-after-ne32.false

-- the operands begin inside the text
next_name : (c : In_ok-name) →
    let args = c.args in
    c.in_ok-name.name + 1 < length args.self.text.now
next_name c =
    after_space c.args.self.text.now (c.args.from + 1 + 1) c.in_ok-name.name c.args.self.ends (c.in_ok-name.ensures c.args.self.n).at

pub overflow_add-name : goal.overflow_add-name
overflow_add-name c = omega (arith, next_name c)

pub scan_operands-requires : goal.scan_operands-requires
scan_operands-requires c = next_name (goal.at.scan_operands-requires c).In_ok-name

pub cells_of-requires : goal.cells_of-requires
cells_of-requires c =
    let m = (c.in_ok-name.ensures c.args.self.n).at in
    let i = m.inside in
    (m.wide, omega arith)

pub returns : goal.returns
returns c =
    let k = (goal.at.returns c).In_ok-kind in
    line_right c.args.self.text.now c.args.self.ends c.args.self.allowed c.args.from (next_kind k) (some k) c.if-self-after-ne32.false
    c.fields-fields.result c.args.self.n c.in_ok-name.name c.in_ok-r.r (c.in_ok-name.ensures c.args.self.n) c.in_ok-r.ensures
    c.args.label (own_code c.in_ok-kind.kind) c.cells_of.result (λ q. omega (arith, c.if-label-lt2.false)) (named k) c.fields-fields.ensures
    (search (rules, c.cells_of.ensures))
