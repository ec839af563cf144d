-- What was found, and then what is found here.
use mathlib.Core.Path.{◌≡◌, ◌∙◌}
use Rattle.std.specs.Prelude.{Err}
use Rattle.refusals.specs.Refusal.{Verdict, Fine, hit}
use Rattle.tree.proofs.Told.{and_else}
use Rattle.tree.proofs.and_label.Goals as goal

pub returns-in-Some : goal.returns-in-Some
returns-in-Some c =
    let here : ◌≡◌ {A = Verdict} (Err c.at.result) (hit c.args.check c.args.label Fine) = rw (c.in-Some.is, ← c.at.ensures.0, ← c.at.ensures.1) in
    c.and.ensures ∙ and_else c.args.verdict.now (Err c.at.result) ∙ rw here
