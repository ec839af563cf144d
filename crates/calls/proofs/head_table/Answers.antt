-- Rows 1 to 3, then row 4 of the table.
use native.Mathlib.Omega.{arith}
use Rattle.std.proofs.lemmas.Result.{err_from_is_err_and}
use Rattle.reading.proofs.Stage.{head_passed}
use Rattle.calls.proofs.Rooms.{table_next, table_stop}
use Rattle.calls.proofs.head_table.Goals as goal

pub overflow_mul-n : goal.overflow_mul-n
overflow_mul-n c =
    let h = head_passed _ _ c.check_head.ensures _ c.in_ok-n.was in
    omega (arith, h.few)

pub returns-in_err-n : goal.returns-in_err-n
returns-in_err-n c =
    let p = err_from_is_err_and c.from_residual.result c.from_residual.ensures.1 in
    rw (p.1, p.2) (table_stop _ _ _ c.check_head.ensures _ c.in_err-n.was)

pub returns : goal.returns
returns c = table_next _ _ _ c.check_head.ensures _ _ c.in_ok-n.was c.with_room.ensures
