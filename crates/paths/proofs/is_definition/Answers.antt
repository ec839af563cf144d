-- By the kind of its code.
use mathlib.Core.Path.{◌∙◌, ap, sym}
use Rattle.kinds.specs.Kinds.{is_definition}
use Rattle.kinds.proofs.Enumerated.{with_code}
use Rattle.cells.specs.Table.{kind}
use Rattle.paths.proofs.ByKind.{no_definition}
use Rattle.paths.proofs.is_definition.Goals as goal

pub returns-in-Some : goal.returns-in-Some
returns-in-Some c = c.is_definition.ensures ∙ ap is_definition (with_code (kind c.args.table.now c.args.label) c.in-Some.kind (sym c.kind_of.ensures ∙ c.in-Some.is))

pub returns-in-None : goal.returns-in-None
returns-in-None c = no_definition (kind c.args.table.now c.args.label) (sym c.kind_of.ensures ∙ c.in-None.is)
