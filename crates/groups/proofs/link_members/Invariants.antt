use mathlib.Core.Path.{◌≡◌}
use Prim.Native.Nat.{◌-◌}
use lib.ListN.{length}
use Rattle.groups.proofs.Chains.{Linked}
use Rattle.groups.proofs.link_members.Given as goal

abbrev pub invariant-loop-l : goal.invariant-loop-l
invariant-loop-l l = (length l.next ≡ length l.initial.next) × Linked l.sheet.cells.now l.sheet.n (l.l - 1) l.next
