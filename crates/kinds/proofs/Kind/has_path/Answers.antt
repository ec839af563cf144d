use mathlib.Core.Path.{◌∙◌, ap}
use Rattle.std.specs.Prelude.{is_some}
use Rattle.kinds.proofs.Enumerated.{path_wants}
use Rattle.kinds.proofs.Kind.has_path.Goals as goal

pub returns : goal.returns
returns c = c.is_some.ensures ∙ ap is_some c.wants.ensures ∙ path_wants c.args.self
