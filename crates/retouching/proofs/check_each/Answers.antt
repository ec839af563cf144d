use mathlib.Core.Path.{sym, ◌∙◌}
use native.Mathlib.Omega.{arith}
use Rattle.refusals.proofs.FirstBad.{first_fine}
use Rattle.redoing.specs.Pairs.{pair_count}
use Rattle.retouching.specs.Retouch.{pair_bad}
use Rattle.retouching.proofs.check_each.Goals as goal

pub loop-k-preserved : goal.loop-k-preserved
loop-k-preserved c =
    let check = pair_bad c.args.table.now c.args.pairs.now in
    let fine = first_fine check (pair_count c.args.pairs.now) c.loop-k.k (omega (arith, c.loop-k-test.true)) (sym c.in_default.ensures) in
    (omega arith, omega (arith, c.loop-k-test.true), sym fine ∙ c.loop-k.invariant.2)
