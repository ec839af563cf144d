use mathlib.Core.Path.{◌∙◌, sym, ap}
use Rattle.std.specs.Prelude.{is_some}
use Rattle.kinds.specs.Kinds.{is_kind}
use Rattle.kinds.proofs.Enumerated.{with_code, with_some}
use Rattle.cells.proofs.checked.ReadTable.kind.Goals as goal

pub unwrap-requires : goal.unwrap-requires
unwrap-requires c =
    ap is_some c.of_code.ensures ∙ with_some c.code.result ∙ ap is_kind c.code.ensures
    ∙ c.args.self.accepted.kinds c.args.label c.requires.0 c.requires.1

pub returns : goal.returns
returns c = with_code c.code.result c.unwrap.result (sym c.of_code.ensures ∙ c.unwrap.ensures) ∙ c.code.ensures
