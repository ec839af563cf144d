use native.Mathlib.Omega.{arith}
use lib.ListN.{length}
use Rattle.std.specs.Prelude.{Ok, Err}
use Rattle.std.proofs.lemmas.Result.{err_from_is_err_and}
use Rattle.calls.proofs.Answers.{made_answers, made_length}
use Rattle.retouching.proofs.Calls.{run_standing, run_retouched, run_refused}
use Rattle.retouching.proofs.retouch_sheet.Goals as goal

pub retouch_run-requires : goal.retouch_run-requires
retouch_run-requires c =
    let own = c.arithmetic_of-own.ensures in (
      rw c.count.ensures (run_standing c.args.text.now c.args.pairs.now (length c.args.table.now) (length c.args.plan.now) (length c.args.results.now)
          (length c.args.changes.now) c.args.n _ _ _ _ c.requires.0 c.run_sheet.ensures _ c.in-Ok.is (made_answers c.in-Ok.made) _ (made_length c.in-Ok.made) own
          c.requires.2 c.requires.3 c.run_sheet.auto.table c.run_sheet.auto.plan c.run_sheet.auto.results),
      omega (arith, c.requires.1, c.run_sheet.auto.table),
      c.requires.4,
    )

pub returns-in_err-retouch_run-in-Ok : goal.returns-in_err-retouch_run-in-Ok
returns-in_err-retouch_run-in-Ok c =
    let p = err_from_is_err_and c.from_residual.result c.from_residual.ensures.1 in
    rw (p.1, p.2) (run_retouched c.args.text.now c.args.pairs.now (length c.args.table.now) (length c.args.plan.now) (length c.args.results.now)
    (length c.args.changes.now) c.args.n _ _ _ _ c.requires.0 c.run_sheet.ensures _ c.in-Ok.is (made_answers c.in-Ok.made) _ (made_length c.in-Ok.made)
    c.arithmetic_of-own.ensures _ (Err _) c.in_err-retouch_run-in-Ok.was _ _ _ _ c.run_sheet.auto.table c.run_sheet.auto.plan c.run_sheet.auto.results c.retouch_run.ensures)

pub returns-in_ok-retouch_run-in-Ok : goal.returns-in_ok-retouch_run-in-Ok
returns-in_ok-retouch_run-in-Ok c =
    run_retouched c.args.text.now c.args.pairs.now (length c.args.table.now) (length c.args.plan.now) (length c.args.results.now)
    (length c.args.changes.now) c.args.n _ _ _ _ c.requires.0 c.run_sheet.ensures _ c.in-Ok.is (made_answers c.in-Ok.made) _ (made_length c.in-Ok.made)
    c.arithmetic_of-own.ensures _ (Ok _) c.in_ok-retouch_run-in-Ok.was _ _ _ _ c.run_sheet.auto.table c.run_sheet.auto.plan c.run_sheet.auto.results c.retouch_run.ensures

pub returns-in-Err : goal.returns-in-Err
returns-in-Err c =
    run_refused c.args.text.now c.args.pairs.now (length c.args.table.now) (length c.args.plan.now) (length c.args.results.now)
    (length c.args.changes.now) c.args.n _ _ _ _ c.requires.0 c.run_sheet.ensures _ _ c.in-Err.is c.clear.ensures
