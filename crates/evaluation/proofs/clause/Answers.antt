use mathlib.Core.Path.{◌∙◌, sym, ap}
use Rattle.std.specs.Prelude.{is_some}
use Rattle.kinds.specs.Kinds.{is_kind, clause_of}
use Rattle.kinds.proofs.Enumerated.{with_code, with_some}
use Rattle.evaluation.proofs.clause.Goals as goal

pub unwrap-requires : goal.unwrap-requires
unwrap-requires c = ap is_some c.of_code.ensures ∙ with_some c.field.result ∙ ap is_kind c.field.ensures ∙ c.requires.1

pub returns : goal.returns
returns c =
    c.clause.ensures ∙ ap clause_of (with_code c.field.result c.unwrap.result (sym c.of_code.ensures ∙ c.unwrap.ensures) ∙ c.field.ensures)
