use mathlib.Core.Path.{sym, ◌∙◌}
use Rattle.reach.proofs.Reading.{is_value}
use Rattle.reach.proofs.Raise.{around_value}
use Rattle.reach.proofs.mark_around.Goals as goal

pub returns-then-eq : goal.returns-then-eq
returns-then-eq c =
    around_value _ _ c.args.sheet.accepted _ _ _ _ _ c.put_mark.ensures (is_value _ _ c.kind.ensures (sym c.eq.ensures ∙ c.if-eq.true)) _ c.mark_groups.ensures
