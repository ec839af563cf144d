use mathlib.Core.Path.{ap, ◌∙◌}
use Rattle.kinds.specs.GivesValues as kinds
use Rattle.cells.proofs.checked.ReadTable.gives_values.Goals as goal

pub returns : goal.returns
returns c = c.gives_values.ensures ∙ ap kinds.gives_values c.kind.ensures
