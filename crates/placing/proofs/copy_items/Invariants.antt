use mathlib.Core.Path.{◌≡◌}
use lib.ListN.{length, take}
use Rattle.placing.proofs.copy_items.Given as goal

abbrev pub invariant-loop-k : goal.invariant-loop-k
invariant-loop-k l = (length l.order ≡ length l.initial.order) × (take l.k l.order ≡ take l.k l.items)
