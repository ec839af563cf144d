-- The bytes that the text has to begin with are those of the line and its end.
use mathlib.Core.Path.{◌∙◌, ap, sym}
use lib.ListN.{take}
use Rattle.text.specs.Bytes.{same}
use Rattle.numbers.specs.declared.Tie.{Tie}
use Rattle.numbers.specs.declared.Tie.TheVariants.{Away, Even}
use Rattle.lines.specs.Lines.{line, first_line}
use Rattle.lines.proofs.Heads.{first_line_lem, begins_same}
use Rattle.lines.proofs.names_tie.Goals as goal

pub returns-in-Away : goal.returns-in-Away
unfolding first_line
returns-in-Away c =
    let s = c.args.text.now in
    c.starts_with.ensures.value ∙ begins_same _ (take 16 s) ∙ sym (first_line_lem s Away c.requires) ∙ ap (λ (x : Tie). same (line s 0) (first_line x)) (sym c.in-Away.is)

pub returns-in-Even : goal.returns-in-Even
unfolding first_line
returns-in-Even c =
    let s = c.args.text.now in
    c.starts_with-in-Even.ensures.value ∙ begins_same _ (take 17 s) ∙ sym (first_line_lem s Even c.requires) ∙ ap (λ (x : Tie). same (line s 0) (first_line x)) (sym c.in-Even.is)
