use mathlib.Core.Path.{sym}
use Rattle.kinds.specs.GivesValues.{gives_values}
use Rattle.kinds.proofs.Kind.gives_values.Goals as goal

pub returns-then-is_definition : goal.returns-then-is_definition
unfolding gives_values
returns-then-is_definition c = rw (sym c.takes.ensures, sym c.is_definition.ensures, c.if-is_definition.true)

pub returns-else-is_definition : goal.returns-else-is_definition
unfolding gives_values
returns-else-is_definition c = rw (sym c.is_definition.ensures, c.if-is_definition.false)
