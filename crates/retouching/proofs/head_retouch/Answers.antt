use Rattle.retouching.proofs.Calls.{changes_next}
use Rattle.retouching.proofs.head_retouch.Goals as goal

pub returns : goal.returns
returns c = changes_next _ c.args.pairs.now _ _ _ c.head_run.ensures _ _ c.in_ok-n.was c.with_room.ensures
