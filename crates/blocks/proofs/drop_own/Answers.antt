use mathlib.Core.Path.{refl, sym, ◌∙◌}
use Rattle.blocks.proofs.drop_own.Goals as goal

pub drop_mark-requires : goal.drop_mark-requires
drop_mark-requires c = record {
  in_square = c.requires;
  q_value = sym c.has_mark.ensures ∙ c.if-has_mark.true;
}

pub returns-else-has_mark : goal.returns-else-has_mark
returns-else-has_mark c = record { gone = sym c.has_mark.ensures ∙ c.if-has_mark.false; others = λ a b d. refl }
