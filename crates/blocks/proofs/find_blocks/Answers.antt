use native.Mathlib.Omega.{arith}
use Rattle.placing.proofs.Lists.{in_at}
use Rattle.blocks.proofs.Parts.{met_more}
use Rattle.blocks.proofs.Steps.{search_start, settled_start}
use Rattle.blocks.proofs.find_blocks.Goals as goal

pub loop-q-init : goal.loop-q-init
loop-q-init c =
    let copied = c.copy_marks.ensures in
    let args = c.args in (
      search_start _ _ _ _ _ _ copied c.clear_marks.ensures _ _ _ _,
      settled_start args.items.now args.square.now args.mask.now _ _ _ copied c.clear_marks.ensures c.lead_selves.new.lead c.lead_selves.ensures,
      λ x m. absurd (omega arith),
    )

pub search-requires-clause-q : goal.search-requires-clause-q
search-requires-clause-q c = rw c.from.ensures (in_at c.args.items.now c.loop-q.q-index c.loop-q-test.true)

pub loop-q-preserved : goal.loop-q-preserved
loop-q-preserved c = (
  c.search.ensures.going_2.0,
  c.search.ensures.going_2.1,
  met_more _ c.loop-q.fresh c.search.new.fresh _ _ _ c.loop-q-test.true c.from.ensures c.search.ensures.kept.0 c.search.ensures.kept.1 c.loop-q.invariant.2,
)
