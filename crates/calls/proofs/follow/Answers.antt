-- Rows 1 to 4, then the others and the results.
use lib.ListN.{length}
use Rattle.calls.proofs.Lists.{follow_ready, follow_answered, follow_refused}
use Rattle.calls.proofs.follow.Goals as goal

pub follow_sheet-requires : goal.follow_sheet-requires
follow_sheet-requires c =
    follow_ready c.args.text.now c.args.order.now (length c.args.table.now) (length c.args.results.now) _
    c.head_follow.ensures _ c.in-Ok.is

pub returns-in-Ok : goal.returns-in-Ok
returns-in-Ok c =
    follow_answered c.args.text.now c.args.order.now (length c.args.table.now) (length c.args.results.now) _
    c.head_follow.ensures _ _ _ _ c.in-Ok.is c.follow_sheet.ensures

pub returns-in-Err : goal.returns-in-Err
returns-in-Err c =
    let zeroed = c.clear_both.ensures in
    follow_refused c.args.text.now c.args.order.now (length c.args.table.now) (length c.args.results.now) _
    c.head_follow.ensures _ _ _ c.in-Err.is zeroed.first_after zeroed.second_after
