-- Then row 4 of the plan.
use Rattle.std.proofs.lemmas.Result.{err_from_is_err_and}
use Rattle.calls.proofs.Rooms.{plan_next, buffer_stop}
use Rattle.calls.proofs.head_plan.Goals as goal

pub returns-in_err-n : goal.returns-in_err-n
returns-in_err-n c =
    let p = err_from_is_err_and c.from_residual.result c.from_residual.ensures.1 in
    rw (p.1, p.2) (buffer_stop _ _ _ c.head_table.ensures _ _ c.in_err-n.was)

pub returns : goal.returns
returns c = plan_next _ _ _ c.head_table.ensures _ _ _ c.in_ok-n.was c.with_room.ensures
