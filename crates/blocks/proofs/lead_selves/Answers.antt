use mathlib.Core.Path.{refl}
use native.Mathlib.Omega.{arith}
use Prim.Native.Nat.{◌<◌}
use lib.ListN.{length, get_or}
use Rattle.placing.proofs.Lists.{in_at}
use Rattle.blocks.proofs.Parts.{lead_turn}
use Rattle.blocks.proofs.lead_selves.Goals as goal
use Rattle.blocks.proofs.lead_selves.Goals.{After-from}

inside : (c : After-from) → c.from.result < length c.loop-x.lead
inside c = omega (arith, c.requires (get_or c.args.items.now c.loop-x.x-index 0) (in_at c.args.items.now c.loop-x.x-index c.loop-x-test.true))

pub bounds-lead-from : goal.bounds-lead-from
bounds-lead-from c = inside c

pub loop-x-preserved : goal.loop-x-preserved
loop-x-preserved c =
    let room : c.from.result < length c.loop-x.lead = omega (arith, c.requires (get_or c.args.items.now c.loop-x.x-index 0) (in_at c.args.items.now c.loop-x.x-index c.loop-x-test.true)) in
    lead_turn c.args.items.now c.loop-x.lead c.loop-x.x-index _ _ c.loop-x-test.true c.from.ensures refl room c.loop-x.invariant
