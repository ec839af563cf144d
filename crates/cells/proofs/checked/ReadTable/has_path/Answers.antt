use mathlib.Core.Path.{ap, ◌∙◌}
use Rattle.kinds.specs.Kinds as kinds
use Rattle.cells.proofs.checked.ReadTable.has_path.Goals as goal

pub returns : goal.returns
returns c = c.has_path.ensures ∙ ap kinds.has_path c.kind.ensures
