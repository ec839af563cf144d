-- The list accepted, and the results down it; or a refusal.
use mathlib.Core.Path.{◌∙◌, ap, sym}
use Prim.Native.Nat.{◌*◌}
use native.Mathlib.Omega.{arith}
use lib.ListN.{length}
use lib.Seq.{length-take-le}
use Rattle.cells.specs.Cells.{zeros}
use Rattle.calls.proofs.Lists.{list_ready, list_follows, list_refused}
use Rattle.calls.proofs.follow_sheet.Goals as goal

pub arithmetic_of-own-requires : goal.arithmetic_of-own-requires
arithmetic_of-own-requires c = c.requires.0.head

pub slice_bounds-sheet-end-in-Ok : goal.slice_bounds-sheet-end-in-Ok
slice_bounds-sheet-end-in-Ok c = sym (length-take-le (8 * c.args.n) c.follow_rows.new.table (omega (arith, c.requires.1, c.follow_rows.auto.table)))

pub invariant_of-sheet : goal.invariant_of-sheet
invariant_of-sheet c = record {
  accepted = (list_ready _ c.args.order.now (length c.args.table.now) _ c.requires.0 _ _ c.follow_rows.ensures c.in-Ok.is).0;
}

pub run_down-requires : goal.run_down-requires
run_down-requires c =
    (c.requires.2, (list_ready _ c.args.order.now (length c.args.table.now) _ c.requires.0 _ _ c.follow_rows.ensures c.in-Ok.is).1)

pub returns-in-Ok : goal.returns-in-Ok
returns-in-Ok c =
    list_follows _ c.args.order.now (length c.args.table.now) _ c.requires.0 _ _ c.follow_rows.ensures c.arithmetic_of-own.ensures _ _
    c.in-Ok.is c.run_down.ensures

pub returns-in-Err : goal.returns-in-Err
returns-in-Err c =
    let zeroed = c.clear_both.ensures in
    list_refused _ c.args.order.now (length c.args.table.now) _ c.requires.0 _ _ c.follow_rows.ensures _ _ _ _
    c.in-Err.is (zeroed.first_after ∙ ap zeros c.follow_rows.auto.table) zeroed.second_after
