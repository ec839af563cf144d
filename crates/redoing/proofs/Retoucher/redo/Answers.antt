use mathlib.Core.Path.{refl}
use native.Mathlib.Omega.{arith}
use Rattle.evaluation.specs.Results.{stored}
use Rattle.evaluation.proofs.Entries.{value_room}
use Rattle.redoing.proofs.Sums.{took_few, room_still, failing_moves, steps_move, redone_tally, failing_few, steps_few}
use Rattle.redoing.proofs.Retoucher.redo.Goals as goal

pub overflow_sub-failing : goal.overflow_sub-failing
overflow_sub-failing c =
    omega (
      arith,
      c.failed.ensures.0,
      c.requires.tallied.0.failed,
      (failing_moves c.args.self.now.arithmetic c.args.table.now c.args.results.now c.args.label c.args.self.now.marked.n (value_room c.requires.evaluable.0) c.requires.evaluable.1).0,
    )

pub steps_of-requires : goal.steps_of-requires
steps_of-requires c = value_room c.requires.evaluable.0

pub overflow_sub-steps : goal.overflow_sub-steps
overflow_sub-steps c =
    omega (
      arith,
      c.steps_of.ensures,
      c.requires.tallied.0.taken,
      (steps_move c.args.self.now.arithmetic c.args.table.now c.args.results.now c.args.label c.args.self.now.marked.n (value_room c.requires.evaluable.0) c.requires.evaluable.1).0,
    )

pub failed-requires-2 : goal.failed-requires-2
failed-requires-2 c = room_still (value_room c.requires.evaluable.0) c.evaluate_into.auto.results

pub overflow_add-result-2 : goal.overflow_add-result-2
overflow_add-result-2 c = omega (arith, c.failed-2.ensures.1, c.requires.tallied.0.failed, failing_few (stored c.args.results.now) c.args.self.now.marked.n, c.args.self.now.marked.few)

pub steps_of-requires-2 : goal.steps_of-requires-2
steps_of-requires-2 c = room_still (value_room c.requires.evaluable.0) c.evaluate_into.auto.results

pub overflow_add-result-3 : goal.overflow_add-result-3
overflow_add-result-3 c =
    let took = took_few c.args.self.now.arithmetic c.args.table.now c.args.results.now c.args.label c.args.self.now.marked.n (value_room c.requires.evaluable.0) c.requires.evaluable.1
    c.requires.tallied.0.short c.evaluate_into.ensures c.steps_of-2.ensures in
    omega (arith, took, c.requires.tallied.0.taken, steps_few (stored c.args.results.now) c.args.self.now.marked.n c.requires.tallied.0.short, c.args.self.now.marked.few)

pub returns-clause-redone_value : goal.returns-clause-redone_value
returns-clause-redone_value c = (
  refl,
  redone_tally c.args.self.now.arithmetic c.args.table.now c.args.results.now c.args.label c.args.self.now.marked.n (value_room c.requires.evaluable.0) c.requires.evaluable.1
      c.args.before c.requires.tallied.0 c.evaluate_into.ensures c.failed.ensures.0 c.steps_of.ensures c.failed-2.ensures.0
      c.steps_of-2.ensures,
)
