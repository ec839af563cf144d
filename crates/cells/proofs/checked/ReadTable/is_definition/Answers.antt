use mathlib.Core.Path.{ap, ◌∙◌}
use Rattle.kinds.specs.Kinds as kinds
use Rattle.cells.proofs.checked.ReadTable.is_definition.Goals as goal

pub returns : goal.returns
returns c = c.is_definition.ensures ∙ ap kinds.is_definition c.kind.ensures
