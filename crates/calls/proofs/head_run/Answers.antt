-- Then row 4 of the results.
use native.Mathlib.Omega.{arith}
use Rattle.std.proofs.lemmas.Result.{err_from_is_err_and}
use Rattle.calls.proofs.Rooms.{run_next, run_stop, opened}
use Rattle.calls.proofs.head_run.Goals as goal

pub overflow_mul-n : goal.overflow_mul-n
overflow_mul-n c =
    let h = opened _ _ _ c.head_plan.ensures _ c.in_ok-n.was in
    omega (arith, h.0.few)

pub returns-in_err-n : goal.returns-in_err-n
returns-in_err-n c =
    let p = err_from_is_err_and c.from_residual.result c.from_residual.ensures.1 in
    rw (p.1, p.2) (run_stop _ _ _ _ c.head_plan.ensures _ _ c.in_err-n.was)

pub returns : goal.returns
returns c = run_next _ _ _ _ c.head_plan.ensures _ _ _ c.in_ok-n.was c.with_room.ensures
