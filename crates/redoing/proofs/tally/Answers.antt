use Prim.Native.Nat.{◌+◌}
use native.Mathlib.Omega.{arith}
use Rattle.evaluation.specs.Results.{stored}
use Rattle.redoing.proofs.Sums.{failing_few, steps_few, counting_none, counting_next}
use Rattle.redoing.proofs.tally.Goals as goal

pub loop-l-init : goal.loop-l-init
loop-l-init c = counting_none _ _

pub overflow_add-failing : goal.overflow_add-failing
overflow_add-failing c =
    omega (
      arith,
      c.loop-l-test.true,
      c.requires.n_in_bounds.1,
      c.loop-l.invariant.failed,
      failing_few (stored c.args.results.now) c.loop-l.l,
      c.failed-failing.ensures.1,
    )

pub overflow_add-steps : goal.overflow_add-steps
overflow_add-steps c =
    omega (
      arith,
      c.loop-l-test.true,
      c.requires.n_in_bounds.1,
      c.loop-l.invariant.taken,
      steps_few (stored c.args.results.now) c.loop-l.l c.requires.by_index,
      c.steps_of-steps.ensures,
      c.requires.by_index (c.loop-l.l + 1),
    )

pub loop-l-preserved : goal.loop-l-preserved
loop-l-preserved c = counting_next _ _ c.loop-l.invariant c.loop-l-test.true c.failed-failing.ensures.0 c.steps_of-steps.ensures
