-- Each field as a part of the text.
use mathlib.Core.Path.{◌≡◌, ◌∙◌}
use Prim.Native.Nat.{◌+◌}
use lib.Seq.{slice}
use Rattle.std.proofs.Common.{rules}
use Rattle.std.specs.Prelude.{Some, None}
use Rattle.lines.specs.Fields.{field_of}
use Rattle.lines.proofs.Fields.{field_at}
use Rattle.lines.proofs.Lines.read_operands.Goals as goal
use Rattle.lines.proofs.Lines.read_operands.Goals.{In_ok-a, In_ok-b}

-- what a holds, and what b holds
first : (c : In_ok-a) →
    let args = c.args in
    Some c.in_ok-a.a ≡ field_of args.kind.a args.self.n (slice (args.e.name + 1) args.e.a args.self.text.now)
first c =
    let args = c.args in
    c.in_ok-a.ensures ∙ field_at args.kind.a args.self.n args.self.text.now (args.e.name + 1) args.e.a

second : (c : In_ok-b) →
    let args = c.args in
    Some c.in_ok-b.b ≡ field_of args.kind.b args.self.n (slice (args.e.a + 1) args.e.b args.self.text.now)
second c =
    let args = c.args in
    c.in_ok-b.ensures ∙ field_at args.kind.b args.self.n args.self.text.now (args.e.a + 1) args.e.b

pub returns-in_err-b : goal.returns-in_err-b
returns-in_err-b c =
    let args = c.args in
    let a = first (goal.at.returns-in_err-b c).In_ok-a in
    let b : None ≡ field_of args.kind.b args.self.n (slice (args.e.a + 1) args.e.b args.self.text.now) =
    c.in_err-b.ensures ∙ field_at args.kind.b args.self.n args.self.text.now (args.e.a + 1) args.e.b in
    search (rules, a, b)

pub returns-in_err-c : goal.returns-in_err-c
returns-in_err-c c =
    let args = c.args in
    let a = first (goal.at.returns-in_err-c c).In_ok-a in
    let b = second (goal.at.returns-in_err-c c).In_ok-b in
    let d : None ≡ field_of args.kind.c args.self.n (slice (args.e.b + 1) args.e.c args.self.text.now) =
    c.in_err-c.ensures ∙ field_at args.kind.c args.self.n args.self.text.now (args.e.b + 1) args.e.c in
    search (rules, a, b, d)

pub returns : goal.returns
returns c =
    let args = c.args in
    let a = first (goal.at.returns c).In_ok-a in
    let b = second (goal.at.returns c).In_ok-b in
    let d : Some c.in_ok-c.c ≡ field_of args.kind.c args.self.n (slice (args.e.b + 1) args.e.c args.self.text.now) =
    c.in_ok-c.ensures ∙ field_at args.kind.c args.self.n args.self.text.now (args.e.b + 1) args.e.c in
    search (rules, a, b, d)
