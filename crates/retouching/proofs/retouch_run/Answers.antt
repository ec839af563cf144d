use mathlib.Core.Path.{sym, ◌∙◌}
use native.Mathlib.Omega.{arith}
use Rattle.retouching.proofs.Rows.{pairs_right, pairs_few}
use Rattle.retouching.proofs.Calls.{run_applied}
use Rattle.retouching.proofs.retouch_run.Goals as goal

pub apply_pairs-requires : goal.apply_pairs-requires
apply_pairs-requires c =
    let fine = sym c.check_pairs.ensures ∙ c.in-Ok.is in
    (c.requires.0, pairs_right _ _ fine, pairs_few _ _ fine, omega (arith, c.requires.2, c.clear_from.auto.t))

pub returns-in-Ok : goal.returns-in-Ok
returns-in-Ok c =
    let fine = sym c.check_pairs.ensures ∙ c.in-Ok.is in
    run_applied _ _ _ _ _ c.args.results.now c.args.changes.now fine c.requires.2 c.clear_from.ensures c.apply_pairs.ensures
