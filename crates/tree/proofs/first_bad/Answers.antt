-- The pass of row 8.
use mathlib.Core.Path.{◌∙◌, sym}
use native.Mathlib.Omega.{arith}
use Rattle.refusals.proofs.FirstBad.{first_fine}
use Rattle.tree.specs.Tree.{structure_bad}
use Rattle.tree.proofs.first_bad.Goals as goal

pub loop-label-preserved : goal.loop-label-preserved
loop-label-preserved c =
    let fine = first_fine (structure_bad c.args.table.now) c.args.n c.loop-label.label (omega arith) (sym c.structure_bad.ensures ∙ c.in_default.is) in
    (omega arith, omega arith, sym fine ∙ c.loop-label.invariant.2)
