use mathlib.Core.Path.{◌≡◌}
use lib.ListN.{length}
use Rattle.groups.proofs.Chains.{Relinking}
use Rattle.groups.proofs.relink.Given as goal

abbrev pub invariant-loop-x : goal.invariant-loop-x
invariant-loop-x l = (length l.next ≡ length l.initial.next) × Relinking l.n l.initial.next l.order l.x-iterator.iter.rest.now l.next l.head
