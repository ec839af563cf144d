use lib.ListN.{length}
use Rattle.retouching.proofs.Calls.{retouch_ready, retouch_answered, retouch_refused}
use Rattle.retouching.proofs.retouch.Goals as goal

pub retouch_sheet-requires : goal.retouch_sheet-requires
retouch_sheet-requires c =
    retouch_ready c.args.text.now c.args.pairs.now (length c.args.table.now) (length c.args.plan.now) (length c.args.results.now)
    (length c.args.changes.now) _ c.head_retouch.ensures _ c.in-Ok.is

pub returns-in-Ok : goal.returns-in-Ok
returns-in-Ok c =
    retouch_answered c.args.text.now c.args.pairs.now (length c.args.table.now) (length c.args.plan.now) (length c.args.results.now)
    (length c.args.changes.now) _ c.head_retouch.ensures _ _ _ _ _ _ c.in-Ok.is
    c.retouch_sheet.ensures

pub returns-in-Err : goal.returns-in-Err
returns-in-Err c =
    let zeroed = c.clear_all.ensures in
    retouch_refused c.args.text.now c.args.pairs.now (length c.args.table.now) (length c.args.plan.now) (length c.args.results.now)
    (length c.args.changes.now) _ c.head_retouch.ensures _ _ _ _ _ c.in-Err.is
    zeroed.table_after zeroed.plan_after zeroed.results_after zeroed.changes_after
