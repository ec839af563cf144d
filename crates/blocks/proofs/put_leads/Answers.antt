use Prim.Native.Nat.{◌*◌, ◌<◌}
use native.Mathlib.Omega.{arith}
use lib.ListN.{length, get_or}
use Rattle.placing.proofs.Lists.{in_at}
use Rattle.blocks.proofs.Rows.{leads_turn}
use Rattle.blocks.proofs.put_leads.Goals as goal
use Rattle.blocks.proofs.put_leads.Goals.{After-from}

-- in a turn: the label at hand has a lead, and the lead has a mark
led : (c : After-from) → (c.from.result < length c.args.lead.now) × (get_or c.args.lead.now c.from.result 0 < 64 * c.args.w)
led c = c.requires.by_index _ (rw c.from.ensures (in_at c.args.list.now c.loop-y.y-index c.loop-y-test.true))

pub bounds-lead-from : goal.bounds-lead-from
bounds-lead-from c = (led (goal.at.bounds-lead-from c).After-from).0

pub put_mark-requires : goal.put_mark-requires
put_mark-requires c = (omega (arith, (led (goal.at.put_mark-requires c).After-from).1, c.from-b.ensures), omega (arith, c.requires.row))

pub loop-y-preserved : goal.loop-y-preserved
loop-y-preserved c =
    leads_turn c.args.list.now c.args.lead.now _ _ _ _ _ c.loop-y.y-index _ _ c.loop-y-test.true c.from.ensures c.from-b.ensures c.loop-y.invariant c.put_mark.ensures
