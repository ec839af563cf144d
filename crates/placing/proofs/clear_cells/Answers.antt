use native.Mathlib.Omega.{arith}
use Rattle.std.proofs.Common.{◌<◌, length, get_or}
use Rattle.placing.proofs.Lists.{in_at}
use Rattle.placing.proofs.Counts.{clear_turn}
use Rattle.placing.proofs.clear_cells.Goals as goal

pub bounds-cells-from : goal.bounds-cells-from
bounds-cells-from c = omega (arith, c.requires (get_or c.args.items.now c.loop-x.x-index 0) (in_at c.args.items.now c.loop-x.x-index c.loop-x-test.true))

pub loop-x-preserved : goal.loop-x-preserved
loop-x-preserved c =
    let inside : c.from.result < length c.loop-x.cells =
    omega (arith, c.requires (get_or c.args.items.now c.loop-x.x-index 0) (in_at c.args.items.now c.loop-x.x-index c.loop-x-test.true)) in
    clear_turn c.args.items.now c.loop-x.cells c.loop-x.x-index _ c.loop-x-test.true c.from.ensures inside c.loop-x.invariant
