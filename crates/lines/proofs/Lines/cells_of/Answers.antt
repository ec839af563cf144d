-- The cells that are not given: 0 and 0 for `-`, else where the name field begins and how long it is.
use mathlib.Core.Path.{◌≡◌, ◌∙◌, sym}
use mathlib.Core.Bool.{true, false}
use Prim.Native.Nat.{◌+◌}
use lib.Seq.{slice}
use Rattle.std.proofs.Common.{rules}
use Rattle.text.specs.Bytes.{same}
use native.Mathlib.Omega.{arith}
use Rattle.kinds.proofs.Enumerated.{own_code_high}
use Rattle.lines.specs.Fields.{dash}
use Rattle.lines.proofs.Fields.{dash_at}
use Rattle.lines.proofs.Lines.cells_of.Goals as goal

pub cell_of-code-requires : goal.cell_of-code-requires
cell_of-code-requires c = omega (arith, own_code_high c.args.kind)

pub returns-then-is_dash : goal.returns-then-is_dash
returns-then-is_dash c =
    let args = c.args in
    let q : same (slice (args.e.kind + 1) args.e.name args.self.text.now) dash ≡ true =
    sym (dash_at args.self.text.now (args.e.kind + 1) args.e.name) ∙ sym c.is_dash.ensures ∙ c.if-is_dash.true in
    search (rules, q)

pub returns : goal.returns
returns c =
    let args = c.args in
    let q : same (slice (args.e.kind + 1) args.e.name args.self.text.now) dash ≡ false =
    sym (dash_at args.self.text.now (args.e.kind + 1) args.e.name) ∙ sym c.is_dash.ensures ∙ c.if-is_dash.false in
    search (rules, q)
