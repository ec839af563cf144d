use mathlib.Core.Path.{refl, sym, ◌∙◌}
use mathlib.Core.Logic.{inl}
use Prim.Native.Nat.{◌<◌}
use native.Mathlib.Omega.{arith}
use Rattle.blocks.specs.Search.{fresh_count, Search, Settled, Kept}
use Rattle.blocks.proofs.Steps.{push_turn, search_empty}
use Rattle.blocks.proofs.search.Goals as goal
use Rattle.blocks.proofs.search.Goals.{After-push-at}

-- the first item is met
pushed : (c : After-push-at) →
    let a = c.args in
    Search a.needs.items.now a.needs.square.now a.needs.mask.now c.push-at.new.fresh c.push-at.new.stacked c.push-at.new.stack c.push-at.new.place
    c.push-at.new.starts c.push-at.new.path a.needs.w 1 c.push-at.result.starts 1
    × Settled a.needs.items.now a.needs.square.now a.needs.mask.now c.push-at.new.fresh c.push-at.new.stacked a.lead.now a.needs.w
    × (fresh_count a.needs.items.now c.push-at.new.fresh a.needs.w < fresh_count a.needs.items.now a.fresh.now a.needs.w) × Kept a.fresh.now c.push-at.new.fresh a.needs.w
pushed c =
    push_turn c.requires.in_rows c.requires.going.0 (sym c.has_mark.ensures ∙ c.if-not-has_mark.false) (inl refl) c.push-at.ensures.pushed c.args.lead.now c.requires.going.1

pub loop-at-init : goal.loop-at-init
loop-at-init c =
    let r = pushed (goal.at.loop-at-init c).After-push-at in
    let deeper = c.push-at.ensures.deeper in
    (rw (deeper.0, deeper.1) r.0, r.1, λ x f. f)

pub returns : goal.returns
returns c =
    let inv = c.loop-at.invariant in record {
      going_2 = (search_empty c.requires.in_rows inv.0 (omega arith), inv.1);
      kept = (λ x f. inv.2 x ((pushed (goal.at.returns c).After-push-at).3 x f), inv.2 c.args.q c.push-at.ensures.pushed.dropped.gone);
    }
