use mathlib.Core.Path.{◌≡◌}
use Prim.Native.Nat.{◌-◌}
use lib.ListN.{length, get_or, take}
use Rattle.groups.proofs.Chains.{Walk}
use Rattle.groups.proofs.append_chain.Given as goal

abbrev pub invariant-loop-p : goal.invariant-loop-p
invariant-loop-p l = (length l.items ≡ length l.initial.items) × Walk l.n l.next (take l.at l.initial.items) l.items (get_or l.next l.label 0) l.p l.m

abbrev pub decreases-loop-p : goal.decreases-loop-p
decreases-loop-p l = length l.initial.items - l.m
