use mir.Syntax.{w64}
use mir.Val.{to_z, of_z}
use mathlib.Core.Path.{◌≡◌, sym, ap, ◌∙◌}
use mir.Facts.{to_z-of_z}
use Rattle.std.proofs.Common.{rules}
use Rattle.evaluation.specs.Evaluation.{outcome_of, gives, fails}
use Rattle.evaluation.specs.Shown.{state_of}
use Rattle.evaluation.proofs.Leaves.{given_by, failed}
use Rattle.evaluation.proofs.combine.Goals as goal

pub returns-in-Ok : goal.returns-in-Ok
returns-in-Ok c =
    let whole : to_z w64 (of_z w64 c.in-Ok.number) ≡ c.in-Ok.number = search rules in
    let is = rw (to_z-of_z {w = w64} c.ranges.a, to_z-of_z {w = w64} c.ranges.b) at c.calculate.ensures in
    c.gives.ensures ∙ ap (λ y. gives y c.args.left) whole ∙ given_by c.in-Ok.number c.args.left ∙ ap (λ x. outcome_of x c.args.left) (sym c.in-Ok.is ∙ is)

pub returns-in-Err : goal.returns-in-Err
returns-in-Err c =
    let is = rw (to_z-of_z {w = w64} c.ranges.a, to_z-of_z {w = w64} c.ranges.b) at c.calculate.ensures in
    c.fails.ensures ∙ ap (λ s. fails (state_of s) c.args.left) c.from.ensures ∙ failed c.in-Err.failure c.args.left
    ∙ ap (λ x. outcome_of x c.args.left) (sym c.in-Err.is ∙ is)
