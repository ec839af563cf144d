-- The plan, and the results down it.
use mathlib.Core.Path.{sym}
use Prim.Native.Nat.{◌*◌}
use native.Mathlib.Omega.{arith}
use lib.ListN.{length}
use lib.Seq.{length-take-le}
use Rattle.calls.proofs.Answers.{made_answers, made_length}
use Rattle.calls.proofs.Calls.{run_down_ready, results_evaluated, results_cleared}
use Rattle.calls.proofs.run_sheet.Goals as goal

pub arithmetic_of-own-requires : goal.arithmetic_of-own-requires
arithmetic_of-own-requires c = c.requires.0.head

pub slice_bounds-sheet-end-in-Ok : goal.slice_bounds-sheet-end-in-Ok
slice_bounds-sheet-end-in-Ok c = sym (length-take-le (8 * c.args.n) c.plan_sheet.new.table (omega (arith, c.requires.1, c.plan_sheet.auto.table)))

pub invariant_of-sheet : goal.invariant_of-sheet
invariant_of-sheet c =
    let w = run_down_ready _ (length c.args.table.now) (length c.args.plan.now) _ _ _ _ c.requires.0 c.plan_sheet.ensures _
    c.in-Ok.is (made_answers c.in-Ok.made) _ (made_length c.in-Ok.made) c.requires.2 in record { accepted = w.0 }

pub slice_bounds-run_down-end-in-Ok : goal.slice_bounds-run_down-end-in-Ok
slice_bounds-run_down-end-in-Ok c =
    let w = run_down_ready _ (length c.args.table.now) (length c.args.plan.now) _ _ _ _ c.requires.0 c.plan_sheet.ensures _
    c.in-Ok.is (made_answers c.in-Ok.made) _ (made_length c.in-Ok.made) c.requires.2 in
    sym (length-take-le c.count.result c.plan_sheet.new.plan (omega (arith, w.1, c.count.ensures, c.plan_sheet.auto.plan)))

pub run_down-requires : goal.run_down-requires
run_down-requires c =
    let w = run_down_ready _ (length c.args.table.now) (length c.args.plan.now) _ _ _ _ c.requires.0 c.plan_sheet.ensures _
    c.in-Ok.is (made_answers c.in-Ok.made) _ (made_length c.in-Ok.made) c.requires.2 in
    (c.requires.3, rw c.count.ensures w.2)

pub returns-in-Ok : goal.returns-in-Ok
returns-in-Ok c =
    results_evaluated _ (length c.args.table.now) (length c.args.plan.now) _ _ _ _ c.requires.0 c.plan_sheet.ensures _
    c.in-Ok.is (made_answers c.in-Ok.made) _ (made_length c.in-Ok.made) c.arithmetic_of-own.ensures _ _ c.run_down.ensures

pub returns-in-Err : goal.returns-in-Err
returns-in-Err c =
    results_cleared _ (length c.args.table.now) (length c.args.plan.now) _ _ _ _ c.requires.0 c.plan_sheet.ensures _ _ _
    c.in-Err.is c.clear.ensures
