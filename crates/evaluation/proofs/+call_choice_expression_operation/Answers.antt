-- The members of the cycle give what the definition says.
use mathlib.Core.Path.{refl, sym, ap, ◌∙◌}
use native.Mathlib.Omega.{arith}
use mir.Syntax.{w64}
use mir.Val.{to_z, of_z}
use Rattle.cells.proofs.Signed.{whole}
use Rattle.evaluation.specs.Evaluation.{gives, call_by, operation_by, choice_by, entered_by}
use Rattle.evaluation.proofs.Entries.{kind_cell}
use Rattle.evaluation.proofs.Entries.{operand_cell, operand_entry, branch_entry, body_entry, body_cell, read_asks, as_kind, none_entered}
use Rattle.evaluation.proofs.Entries.{number_ranged, number_whole, ranged_whole, left_less_by}
use Rattle.evaluation.proofs.Answers.{first_fails, call_deep, call_goes, second_fails, combines, chooses, no_step, entered}
use Rattle.evaluation.proofs.+call_choice_expression_operation.Goals as goal

pub call-field-argument-requires : goal.call-field-argument-requires
call-field-argument-requires t c = operand_cell c.requires.entered refl _ (omega arith)

pub call-expression-evaluated-requires : goal.call-expression-evaluated-requires
call-expression-evaluated-requires t c = (omega (arith, c.decreases), operand_entry c.requires.entered _ c.field-argument.ensures refl)

pub call-returns-in_default : goal.call-returns-in_default
unfolding call_by
call-returns-in_default t c = first_fails _ _ _ c.args.label _ _ _ c.expression-evaluated.result c.field-argument.ensures c.expression-evaluated.ensures _ c.in_default.not-Number c.fails.ensures

pub call-returns-then-rest-eq-DEPTH : goal.call-returns-then-rest-eq-DEPTH
call-returns-then-rest-eq-DEPTH t c =
    call_deep _ _ _ _ _ _ _ c.expression-evaluated.result c.field-argument.ensures c.expression-evaluated.ensures c.in-Number.is c.if-rest-eq-DEPTH.true c.fails-then-rest-eq-DEPTH.ensures

pub call-field-body-requires : goal.call-field-body-requires
call-field-body-requires t c = body_cell c.requires.entered c.field-target.ensures

pub call-expression-requires : goal.call-expression-requires
call-expression-requires t c =
    let entry = operand_entry c.requires.entered _ c.field-argument.ensures refl in (
      omega (arith, c.decreases, c.deeper.ensures.0, left_less_by _ _ _ _ _ _ _ c.expression-evaluated.result c.expression-evaluated.ensures),
      rw (number_whole _ _ _ _ _ _ _ c.expression-evaluated.result c.expression-evaluated.ensures entry c.in-Number.is)
          (body_entry c.requires.entered c.field-target.ensures c.field-body.ensures
          (number_ranged _ _ _ _ _ _ _ c.expression-evaluated.result c.expression-evaluated.ensures entry c.in-Number.is)
          (omega (arith, c.deeper.ensures.1, c.requires.entered.entry.shallow, c.if-rest-eq-DEPTH.false))),
    )

pub call-returns : goal.call-returns
call-returns t c =
    c.by_field.ensures
    ∙ call_goes _ _ _ _ _ _ _ c.expression-evaluated.result c.field-argument.ensures c.expression-evaluated.ensures c.in-Number.is c.if-rest-eq-DEPTH.false
    (number_whole _ _ _ _ _ _ _ c.expression-evaluated.result c.expression-evaluated.ensures (operand_entry c.requires.entered _ c.field-argument.ensures refl) c.in-Number.is)
    c.field-target.ensures c.field-body.ensures c.deeper.ensures.0 c.deeper.ensures.1 c.deeper.ensures.2 c.expression.ensures

pub choice-field-tested-requires : goal.choice-field-tested-requires
choice-field-tested-requires t c = operand_cell c.requires refl _ (omega arith)

pub choice-expression-evaluated-requires : goal.choice-expression-evaluated-requires
choice-expression-evaluated-requires t c = (omega (arith, c.decreases), operand_entry c.requires _ c.field-tested.ensures refl)

pub choice-returns-in_default : goal.choice-returns-in_default
unfolding choice_by
choice-returns-in_default t c = first_fails _ _ _ c.args.label _ _ _ c.expression-evaluated.result c.field-tested.ensures c.expression-evaluated.ensures _ c.in_default.not-Number c.fails.ensures

pub choice-expression-requires : goal.choice-expression-requires
choice-expression-requires t c = (
  omega (arith, c.decreases, c.with_left.ensures.0, left_less_by _ _ _ _ _ _ _ c.expression-evaluated.result c.expression-evaluated.ensures),
  rw c.with_left.ensures.1 (branch_entry c.requires (to_z w64 (of_z w64 c.expression-evaluated.result.number)) c.branch_of-branch.ensures),
)

pub choice-returns : goal.choice-returns
choice-returns t c =
    c.by_field.ensures
    ∙ chooses _ _ _ _ _ _ _ c.expression-evaluated.result c.field-tested.ensures c.expression-evaluated.ensures c.in-Number.is
    (number_whole _ _ _ _ _ _ _ c.expression-evaluated.result c.expression-evaluated.ensures (operand_entry c.requires _ c.field-tested.ensures refl) c.in-Number.is)
    c.branch_of-branch.ensures c.with_left.ensures.0 c.with_left.ensures.1 c.with_left.ensures.2 c.expression.ensures

pub expression-returns-then-allowance-eq0 : goal.expression-returns-then-allowance-eq0
expression-returns-then-allowance-eq0 t c = no_step _ _ _ _ _ _ _ c.if-allowance-eq0.true c.fails.ensures

pub expression-clause-requires : goal.expression-clause-requires
expression-clause-requires t c = kind_cell c.requires

pub expression-read-requires : goal.expression-read-requires
expression-read-requires t c = read_asks (as_kind c.requires c.step-rest.ensures.1 c.clause.ensures c.in-Read.is)

pub expression-unreachable-requires : goal.expression-unreachable-requires
expression-unreachable-requires t c = none_entered (as_kind c.requires c.step-rest.ensures.1 c.clause.ensures c.in-None.is)

pub expression-returns-in-Number : goal.expression-returns-in-Number
unfolding entered_by
expression-returns-in-Number t c =
    entered _ _ _ _ _ _ _ c.if-allowance-eq0.false c.step-rest.ensures.0 c.step-rest.ensures.1 c.step-rest.ensures.2
    (sym c.in-Number.is ∙ c.clause.ensures) (c.gives.ensures ∙ ap (λ y. gives y c.step-rest.result.left) (whole c.number_of.result c.number_of.type_inv ∙ c.number_of.ensures))

pub expression-returns-in-Argument : goal.expression-returns-in-Argument
unfolding entered_by
expression-returns-in-Argument t c =
    entered _ _ _ _ _ _ _ c.if-allowance-eq0.false c.step-rest.ensures.0 c.step-rest.ensures.1 c.step-rest.ensures.2
    (sym c.in-Argument.is ∙ c.clause.ensures) (c.gives-in-Argument.ensures ∙ ap (λ y. gives y c.step-rest.result.left) (ranged_whole c.requires.given))

pub expression-returns-in-Read : goal.expression-returns-in-Read
unfolding entered_by
expression-returns-in-Read t c =
    entered _ _ _ _ _ _ _ c.if-allowance-eq0.false c.step-rest.ensures.0 c.step-rest.ensures.1 c.step-rest.ensures.2
    (sym c.in-Read.is ∙ c.clause.ensures) c.read.ensures

pub expression-returns-in-Call : goal.expression-returns-in-Call
unfolding entered_by
expression-returns-in-Call t c =
    entered _ _ _ _ _ _ _ c.if-allowance-eq0.false c.step-rest.ensures.0 c.step-rest.ensures.1 c.step-rest.ensures.2
    (sym c.in-Call.is ∙ c.clause.ensures) c.call.ensures

pub expression-returns-in-Operation : goal.expression-returns-in-Operation
unfolding entered_by
expression-returns-in-Operation t c =
    entered _ _ _ _ _ _ _ c.if-allowance-eq0.false c.step-rest.ensures.0 c.step-rest.ensures.1 c.step-rest.ensures.2
    (sym c.in-Operation.is ∙ c.clause.ensures) c.operation.ensures

pub expression-returns-in-Choice : goal.expression-returns-in-Choice
unfolding entered_by
expression-returns-in-Choice t c =
    entered _ _ _ _ _ _ _ c.if-allowance-eq0.false c.step-rest.ensures.0 c.step-rest.ensures.1 c.step-rest.ensures.2
    (sym c.in-Choice.is ∙ c.clause.ensures) c.choice.ensures

pub operation-field-a-requires : goal.operation-field-a-requires
operation-field-a-requires t c = operand_cell c.requires refl _ (omega arith)

pub operation-expression-first-requires : goal.operation-expression-first-requires
operation-expression-first-requires t c = (omega (arith, c.decreases), operand_entry c.requires _ c.field-a.ensures refl)

pub operation-returns-in_default : goal.operation-returns-in_default
unfolding operation_by
operation-returns-in_default t c = first_fails _ _ _ c.args.label _ _ _ c.expression-first.result c.field-a.ensures c.expression-first.ensures _ c.in_default.not-Number c.fails.ensures

pub operation-expression-second-requires : goal.operation-expression-second-requires
operation-expression-second-requires t c = (
  omega (arith, c.decreases, c.with_left.ensures.0, left_less_by _ _ _ _ _ _ _ c.expression-first.result c.expression-first.ensures),
  rw c.with_left.ensures.1 (operand_entry c.requires _ c.field-b.ensures refl),
)

pub operation-returns-in_default-state : goal.operation-returns-in_default-state
operation-returns-in_default-state t c =
    second_fails _ _ _ _ _ _ _ c.expression-first.result c.field-a.ensures c.expression-first.ensures c.expression-second.result c.in-Number.is c.field-b.ensures
    c.with_left.ensures.0 c.with_left.ensures.1 c.with_left.ensures.2 c.expression-second.ensures _ c.in_default-state.not-Number c.fails-in_default-state.ensures

pub operation-combine-requires : goal.operation-combine-requires
operation-combine-requires t c =
    let first = operand_entry c.requires _ c.field-a.ensures refl in (
      rw (number_whole _ _ _ _ _ _ _ c.expression-first.result c.expression-first.ensures first c.in-Number.is)
          (number_ranged _ _ _ _ _ _ _ c.expression-first.result c.expression-first.ensures first c.in-Number.is),
      rw (number_whole _ _ _ _ _ _ _ c.expression-second.result c.expression-second.ensures (rw c.with_left.ensures.1 (operand_entry c.requires _ c.field-b.ensures refl)) c.in-Number-state.is)
          (number_ranged _ _ _ _ _ _ _ c.expression-second.result c.expression-second.ensures (rw c.with_left.ensures.1 (operand_entry c.requires _ c.field-b.ensures refl)) c.in-Number-state.is),
    )

pub operation-returns : goal.operation-returns
operation-returns t c =
    combines _ _ _ _ _ _ _ c.expression-first.result c.field-a.ensures c.expression-first.ensures c.expression-second.result c.in-Number.is c.field-b.ensures
    c.with_left.ensures.0 c.with_left.ensures.1 c.with_left.ensures.2 c.expression-second.ensures _ c.in-Number-state.is
    (number_whole _ _ _ _ _ _ _ c.expression-first.result c.expression-first.ensures (operand_entry c.requires _ c.field-a.ensures refl) c.in-Number.is)
    (number_whole _ _ _ _ _ _ _ c.expression-second.result c.expression-second.ensures (rw c.with_left.ensures.1 (operand_entry c.requires _ c.field-b.ensures refl)) c.in-Number-state.is)
    c.combine.ensures
