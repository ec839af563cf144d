-- Rows 1 to 4, then the others.
use lib.ListN.{length}
use Rattle.calls.proofs.Calls.{plan_ready, plan_answered, plan_refused}
use Rattle.calls.proofs.plan.Goals as goal

pub plan_sheet-requires : goal.plan_sheet-requires
plan_sheet-requires c = plan_ready c.args.text.now (length c.args.table.now) (length c.args.plan.now) _ c.head_plan.ensures _ c.in-Ok.is

pub returns-in-Ok : goal.returns-in-Ok
returns-in-Ok c =
    plan_answered c.args.text.now (length c.args.table.now) (length c.args.plan.now) _
    c.head_plan.ensures _ _ _ _ c.in-Ok.is c.plan_sheet.ensures

pub returns-in-Err : goal.returns-in-Err
returns-in-Err c =
    let zeroed = c.clear_both.ensures in
    plan_refused c.args.text.now (length c.args.table.now) (length c.args.plan.now) _
    c.head_plan.ensures _ _ _ c.in-Err.is zeroed.first_after zeroed.second_after
