use Rattle.lines.proofs.Rows.{line_fields}
use Rattle.lines.proofs.Lines.read_split.Goals as goal

pub returns-in_default : goal.returns-in_default
returns-in_default c = line_fields c.args.self.n c.args.label c.args.self.text.now c.args.from c.in_default.ensures
