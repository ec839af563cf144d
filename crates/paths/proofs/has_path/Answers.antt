-- By the kind of its code.
use mathlib.Core.Path.{◌∙◌, ap, sym}
use Rattle.kinds.specs.Kinds.{has_path}
use Rattle.kinds.proofs.Enumerated.{with_code}
use Rattle.cells.specs.Table.{kind}
use Rattle.paths.proofs.ByKind.{no_path}
use Rattle.paths.proofs.has_path.Goals as goal

pub returns-in-Some : goal.returns-in-Some
returns-in-Some c = c.has_path.ensures ∙ ap has_path (with_code (kind c.args.table.now c.args.label) c.in-Some.kind (sym c.kind_of.ensures ∙ c.in-Some.is))

pub returns-in-None : goal.returns-in-None
returns-in-None c = no_path (kind c.args.table.now c.args.label) (sym c.kind_of.ensures ∙ c.in-None.is)
