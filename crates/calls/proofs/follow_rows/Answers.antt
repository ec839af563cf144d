-- Rows 5 to 15, then rows 16 to 18.
use mathlib.Core.Path.{sym}
use Prim.Native.Nat.{◌*◌}
use native.Mathlib.Omega.{arith}
use lib.ListN.{length}
use lib.Seq.{length-take-le}
use Rattle.std.proofs.lemmas.Result.{err_from_is_err_and}
use Rattle.calls.proofs.Sheets.{sheet_ready}
use Rattle.calls.proofs.Lists.{list_checked, list_unread}
use Rattle.calls.proofs.follow_rows.Goals as goal

pub slice_bounds-sheet-end-2 : goal.slice_bounds-sheet-end-2
slice_bounds-sheet-end-2 c = sym (length-take-le (8 * c.args.n) c.read_sheet.new.table (omega (arith, c.requires.1, c.read_sheet.auto.table)))

pub invariant_of-sheet : goal.invariant_of-sheet
invariant_of-sheet c = record {
  accepted = sheet_ready _ (length c.args.table.now) _ c.requires.0 _ _ c.read_sheet.ensures c.in_ok-read_sheet.was;
}

pub returns-in_err-read_sheet : goal.returns-in_err-read_sheet
returns-in_err-read_sheet c =
    let p = err_from_is_err_and c.from_residual.result c.from_residual.ensures.1 in
    rw (p.1, p.2) (list_unread _ c.args.order.now (length c.args.table.now) _ c.requires.0 _ _ c.read_sheet.ensures _ _ c.in_err-read_sheet.was)

pub returns : goal.returns
returns c =
    list_checked _ c.args.order.now (length c.args.table.now) _ c.requires.0 _ _ c.read_sheet.ensures _
    c.in_ok-read_sheet.was c.check_order.ensures
