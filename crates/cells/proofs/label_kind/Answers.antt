use mathlib.Core.Path.{◌∙◌, sym, ap}
use Rattle.std.specs.Prelude.{is_some}
use Rattle.kinds.specs.Kinds.{is_kind}
use Rattle.kinds.proofs.Enumerated.{with_code, with_some}
use Rattle.cells.proofs.label_kind.Goals as goal

pub unwrap-requires : goal.unwrap-requires
unwrap-requires c = ap is_some c.of_code.ensures ∙ with_some c.label_cell.result ∙ ap is_kind c.label_cell.ensures ∙ c.requires.2

pub returns : goal.returns
returns c = with_code c.label_cell.result c.unwrap.result (sym c.of_code.ensures ∙ c.unwrap.ensures) ∙ c.label_cell.ensures
