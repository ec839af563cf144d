use Rattle.std.proofs.Common.{◌≡◌, false, ℕ, take}
use Rattle.order.specs.LabelLists.{◌∈◌}
use Rattle.marks.specs.Marks.{mark}
use Rattle.blocks.specs.Search.{Search, Settled}
use Rattle.blocks.proofs.find_blocks.Given as goal

abbrev pub invariant-loop-q : goal.invariant-loop-q
invariant-loop-q l =
    Search l.items l.square l.mask l.fresh l.stacked l.stack l.place l.starts l.path l.w 0 0 0
    × Settled l.items l.square l.mask l.fresh l.stacked l.lead l.w
    × ((x : ℕ) → x ∈ take l.q-index l.items → mark l.fresh l.w 0 x ≡ false)
