use mathlib.Core.Path.{◌∙◌, sym}
use native.Mathlib.Omega.{arith}
use lib.ListN.{length-set}
use lib.IntN.{pos}
use Rattle.cells.proofs.Clearing.{clear_step, clear_done}
use Rattle.cells.proofs.clear_from.Goals as goal

pub loop-i-preserved : goal.loop-i-preserved
loop-i-preserved c =
    let inv = c.loop-i.invariant in (
      length-set c.loop-i.t c.loop-i.i (pos 0) ∙ inv.0,
      inv.1 ∙ clear_step c.loop-i.t c.loop-i.i (omega (arith, inv.0, c.loop-i-test.true)),
    )

pub shape_of-t : goal.shape_of-t
shape_of-t c = c.loop-i.invariant.0

pub returns : goal.returns
returns c = sym (c.loop-i.invariant.1 ∙ clear_done c.loop-i.t c.loop-i.i (omega (arith, c.loop-i.invariant.0, c.loop-i-test.false)))
