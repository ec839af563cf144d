-- Rows 1 to 3, then the others.
use Rattle.reading.proofs.Stage.{head_passed, head_refused}
use Rattle.reading.proofs.read.Goals as goal

pub read_body-requires : goal.read_body-requires
read_body-requires c = head_passed _ _ c.check_head.ensures _ c.in-Ok.is

pub returns-in-Ok : goal.returns-in-Ok
returns-in-Ok c = c.read_body.ensures

pub returns-in-Err : goal.returns-in-Err
returns-in-Err c = head_refused _ _ _ c.check_head.ensures _ _ c.in-Err.is c.clear.ensures
