-- Rows 1 to 4, then the others and the results.
use lib.ListN.{length}
use Rattle.calls.proofs.Calls.{run_ready, run_answered, run_refused}
use Rattle.calls.proofs.run.Goals as goal

pub run_sheet-requires : goal.run_sheet-requires
run_sheet-requires c =
    run_ready c.args.text.now (length c.args.table.now) (length c.args.plan.now) (length c.args.results.now) _
    c.head_run.ensures _ c.in-Ok.is

pub returns-in-Ok : goal.returns-in-Ok
returns-in-Ok c =
    run_answered c.args.text.now (length c.args.table.now) (length c.args.plan.now) (length c.args.results.now) _
    c.head_run.ensures _ _ _ _ _ c.in-Ok.is c.run_sheet.ensures

pub returns-in-Err : goal.returns-in-Err
returns-in-Err c =
    let zeroed = c.clear_both.ensures in
    run_refused c.args.text.now (length c.args.table.now) (length c.args.plan.now) (length c.args.results.now) _
    c.head_run.ensures _ _ _ _ c.in-Err.is zeroed.first_after zeroed.second_after c.clear.ensures
