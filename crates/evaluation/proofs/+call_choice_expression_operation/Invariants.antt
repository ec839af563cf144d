-- Each entry takes a step, so that twice the steps left falls: from the expression to a rule, which has one more, and from a rule to
-- its operands.
use Rattle.std.proofs.Common.{◌*◌, ◌+◌}
use Rattle.evaluation.proofs.+call_choice_expression_operation.Given as goal

abbrev pub decreases-call : goal.decreases-call
decreases-call l = 2 * l.rest.left + 1

abbrev pub decreases-choice : goal.decreases-choice
decreases-choice l = 2 * l.rest.left + 1

abbrev pub decreases-expression : goal.decreases-expression
decreases-expression l = 2 * l.allowance.left

abbrev pub decreases-operation : goal.decreases-operation
decreases-operation l = 2 * l.rest.left + 1
