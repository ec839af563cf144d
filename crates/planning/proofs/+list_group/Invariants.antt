use mathlib.Core.Path.{◌≡◌}
use Prim.Native.Nat.{◌-◌}
use lib.ListN.{length}
use Rattle.groups.proofs.Chains.{steps}
use Rattle.planning.proofs.Listing.{Turn}
use Rattle.planning.proofs.+list_group.Given as goal

-- a Group in a Group has a label above it
abbrev pub decreases-list_group : goal.decreases-list_group
decreases-list_group l = l.sheet.n - l.group

abbrev pub invariant-loop-x : goal.invariant-loop-x
invariant-loop-x l = (length l.plan ≡ length l.initial.plan) × Turn l.sheet.cells.now l.sheet.n l.group l.next l.at l.initial.plan l.plan l.to l.x

abbrev pub decreases-loop-x : goal.decreases-loop-x
decreases-loop-x l = steps l.sheet.n l.next l.sheet.n l.x
