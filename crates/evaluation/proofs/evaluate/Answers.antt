use mathlib.Core.Path.{◌≡◌}
use native.Mathlib.Omega.{arith}
use mir.Syntax.{w64}
use mir.Val.{to_z, of_z}
use Rattle.std.proofs.Common.{rules}
use Rattle.evaluation.proofs.Entries.{value_cell, value_entry}
use Rattle.evaluation.proofs.Answers.{value_is, value_left, value_stored}
use Rattle.evaluation.proofs.evaluate.Goals as goal

pub field-body-requires : goal.field-body-requires
field-body-requires c = value_cell c.requires

pub expression-outcome-requires : goal.expression-outcome-requires
expression-outcome-requires c = rw c.fresh.ensures.1 (value_entry c.requires c.field-body.ensures)

pub overflow_sub-result : goal.overflow_sub-result
overflow_sub-result c =
    let is = value_is _ _ _ c.args.label c.field-body.ensures c.fresh.ensures.0 c.fresh.ensures.1 c.fresh.ensures.2 c.expression-outcome.ensures in
    omega (arith, value_left _ _ _ c.args.label c.expression-outcome.result is)

pub returns : goal.returns
returns c =
    let o = c.expression-outcome.result in
    let number : to_z w64 (of_z w64 o.number) ≡ o.number = search rules in
    rw (number, c.number.ensures)
    (value_stored _ _ _ c.args.label o (value_is _ _ _ c.args.label c.field-body.ensures c.fresh.ensures.0 c.fresh.ensures.1 c.fresh.ensures.2 c.expression-outcome.ensures))
