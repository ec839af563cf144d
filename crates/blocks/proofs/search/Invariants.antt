use Rattle.std.proofs.Common.{◌+◌, ◌*◌}
use Rattle.blocks.specs.Search.{fresh_count, Search, Settled, Kept}
use Rattle.blocks.proofs.search.Given as goal

abbrev pub invariant-loop-at : goal.invariant-loop-at
invariant-loop-at l =
    Search l.needs.items.now l.needs.square.now l.needs.mask.now l.fresh l.stacked l.stack l.place l.starts l.path l.needs.w l.at.stack l.at.starts l.at.path
    × Settled l.needs.items.now l.needs.square.now l.needs.mask.now l.fresh l.stacked l.lead l.needs.w
    × Kept l.initial.fresh l.fresh l.needs.w

abbrev pub decreases-loop-at : goal.decreases-loop-at
decreases-loop-at l = 2 * fresh_count l.needs.items.now l.fresh l.needs.w + l.at.path
