use mathlib.Core.Path.{◌∙◌}
use native.Mathlib.Omega.{arith}
use Rattle.std.proofs.lemmas.Int.{ints}
use Rattle.evaluation.proofs.Leaves.{state_whole, answer_number, answer_failed}
use Rattle.evaluation.proofs.answer_at.Goals as goal

pub returns-then-from-state : goal.returns-then-from-state
returns-then-from-state c =
    let whole = state_whole c.args.results.now c.args.label c.args.left c.requires.1 c.requires.0.low in
    c.fails.ensures
    ∙ answer_failed c.args.results.now c.args.label c.args.left c.requires.1 c.requires.0.low (omega (arith, ints, rw whole at c.if-from-state.true))
    c.of_cell.result c.of_cell.ensures

pub returns : goal.returns
returns c =
    let whole = state_whole c.args.results.now c.args.label c.args.left c.requires.1 c.requires.0.low in
    c.gives.ensures
    ∙ answer_number c.args.results.now c.args.label c.args.left c.requires.1 c.requires.0.low (omega (arith, ints, rw whole at c.if-from-state.false))
