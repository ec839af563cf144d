use native.Mathlib.Omega.{arith}
use Rattle.order.specs.LabelLists.{◌∈◌}
use Rattle.splitting.proofs.Linking.{expand_item, expand_walk, expanding_turn}
use Rattle.opening.proofs.expand.Goals as goal
use Rattle.opening.proofs.expand.Goals.{After-from}

-- in a turn: the one at hand
item : (c : After-from) → c.from.result ∈ c.args.order.now
item c = expand_item _ _ _ _ c.requires.chains _ c.loop-b.invariant.0 _ _ c.loop-b.invariant.1 c.loop-b-test.true _ c.from.ensures

pub append_chain-m-requires-clause-n_le_label_limit : goal.append_chain-m-requires-clause-n_le_label_limit
append_chain-m-requires-clause-n_le_label_limit c =
    let p = c.requires in
    (p.n_le_label_limit.0, p.chains.label _ (item (goal.at.append_chain-m-requires-clause-n_le_label_limit c).After-from), p.n_le_label_limit.1, c.loop-b.invariant.1.short)

pub append_chain-m-requires-clause-walkable_chain : goal.append_chain-m-requires-clause-walkable_chain
append_chain-m-requires-clause-walkable_chain c =
    expand_walk _ _ _ _ c.requires.chains _ c.loop-b.invariant.0 _ _ c.loop-b.invariant.1 c.loop-b-test.true _ c.from.ensures

pub loop-b-preserved : goal.loop-b-preserved
loop-b-preserved c =
    let inv = c.loop-b.invariant in
    (omega (arith, c.append_chain-m.auto.items, inv.0), expanding_turn _ _ _ _ c.requires.chains _ inv.0 _ _ inv.1 c.loop-b-test.true _ c.from.ensures _ _ c.append_chain-m.ensures)
