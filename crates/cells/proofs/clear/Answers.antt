use mathlib.Core.Path.{◌∙◌}
use Rattle.cells.proofs.Clearing.{clear_all}
use Rattle.cells.proofs.clear.Goals as goal

pub returns : goal.returns
returns c = c.clear_from.ensures ∙ clear_all c.args.t.now
