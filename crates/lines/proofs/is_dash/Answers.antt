use Rattle.lines.proofs.Fields.{dash_long}
use Rattle.lines.proofs.is_dash.Goals as goal

pub returns-in_default-2 : goal.returns-in_default-2
returns-in_default-2 c = dash_long c.args.field.now c.in_default.len_at_least
