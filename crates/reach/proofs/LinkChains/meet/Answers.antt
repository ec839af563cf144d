use mathlib.Core.Path.{refl, sym, ◌∙◌}
use Rattle.std.proofs.Common.{rules}
use denote.Enum.Bare.{same_true}
use Rattle.reach.specs.contracts.RowState.{the_type}
use Rattle.reach.specs.Turns.{added}
use Rattle.reach.proofs.Raise.{added_then, row_raised}
use Rattle.reach.proofs.LinkChains.meet.Goals as goal

pub mark_around-requires-clause-raised : goal.mark_around-requires-clause-raised
mark_around-requires-clause-raised c =
    let made = same_true the_type (search rules) _ _ (sym c.eq.ensures ∙ c.if-eq.true) in
    row_raised _ _ _ _ _ _ c.requires.raised (c.requires.raised_2 made) c.merge_row.ensures

pub returns-then-eq : goal.returns-then-eq
returns-then-eq c =
    let made = same_true the_type (search rules) _ _ (sym c.eq.ensures ∙ c.if-eq.true) in
    added (sym c.has_mark.ensures ∙ c.if-has_mark.false) made refl refl (added_then _ _ _ _ _ _ _ c.merge_row.ensures c.mark_around.ensures)
