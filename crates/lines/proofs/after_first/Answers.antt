-- The two lengths, each with the newline.
use mathlib.Core.Path.{◌∙◌, ap, sym}
use Prim.Native.Nat.{◌+◌}
use lib.ListN.{length}
use Rattle.numbers.specs.declared.Tie.{Tie}
use Rattle.lines.specs.Lines.{first_line}
use Rattle.lines.proofs.after_first.Goals as goal

pub returns-in-Away : goal.returns-in-Away
unfolding first_line
returns-in-Away c = ap (λ (x : Tie). length (first_line x) + 1) (sym c.in-Away.is ∙ c.tie_of.ensures)

pub returns-in-Even : goal.returns-in-Even
unfolding first_line
returns-in-Even c = ap (λ (x : Tie). length (first_line x) + 1) (sym c.in-Even.is ∙ c.tie_of.ensures)
