-- Rows 5 to 15, then row 16 and the plan.
use mathlib.Core.Path.{◌∙◌, ap}
use native.Mathlib.Omega.{arith}
use lib.ListN.{length}
use Rattle.cells.specs.Cells.{zeros}
use Rattle.calls.proofs.Sheets.{sheet_ready, sheet_plans, sheet_refused, refused_plans}
use Rattle.calls.proofs.plan_sheet.Goals as goal

pub plan_table-requires : goal.plan_table-requires
plan_table-requires c =
    let ok = sheet_ready _ (length c.args.table.now) _ c.requires.0 _ _ c.read_sheet.ensures c.in-Ok.is in
    (ok, omega (arith, c.requires.1, c.read_sheet.auto.table), c.requires.2)

pub returns-in-Ok : goal.returns-in-Ok
returns-in-Ok c =
    sheet_plans _ (length c.args.table.now) _ c.requires.0 _ _ c.read_sheet.ensures _ _ _ _
    c.in-Ok.is c.read_sheet.auto.table c.plan_table.ensures

pub returns-in-Err : goal.returns-in-Err
returns-in-Err c =
    let refused = sheet_refused _ (length c.args.table.now) _ c.requires.0 _ _ c.read_sheet.ensures _ c.in-Err.is in
    let zeroed = c.clear_both.ensures in
    refused_plans _ _ (length c.args.table.now) _ _ _ _ refused (zeroed.first_after ∙ ap zeros c.read_sheet.auto.table) zeroed.second_after
