use mathlib.Core.Path.{◌≡◌}
use lib.ListN.{length}
use Rattle.splitting.proofs.Linking.{Linking}
use Rattle.splitting.proofs.link_blocks.Given as goal

abbrev pub invariant-loop-item : goal.invariant-loop-item
invariant-loop-item l = (length l.links ≡ length l.initial.links) × Linking l.n l.items l.lead l.item-iterator.iter.rest.now l.links
