use mathlib.Core.Path.{◌∙◌, sym}
use Rattle.std.proofs.Common.{rules}
use Rattle.lines.specs.Lines.{root_line}
use Rattle.lines.proofs.Fields.{line_at}
use Rattle.lines.proofs.Rows.{root_right, root_wrong}
use Rattle.lines.proofs.Lines.read_root.Goals as goal

pub returns-then-eq : goal.returns-then-eq
unfolding root_line
returns-then-eq c =
    let s = c.args.self.text.now in
    search (rules, root_right s c.args.from c.args.e c.requires (sym (line_at s c.args.from c.args.e.c root_line) ∙ sym c.eq.ensures ∙ c.if-eq.true))

pub returns : goal.returns
unfolding root_line
returns c =
    let s = c.args.self.text.now in
    root_wrong s c.args.from c.args.e c.requires (sym (line_at s c.args.from c.args.e.c root_line) ∙ sym c.eq.ensures ∙ c.if-eq.false)
