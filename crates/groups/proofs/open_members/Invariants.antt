use mathlib.Core.Path.{◌≡◌}
use Prim.Native.Nat.{◌-◌}
use lib.ListN.{length, take}
use Rattle.groups.proofs.Opening.{Opening}
use Rattle.groups.proofs.open_members.Given as goal

abbrev pub invariant-loop-i : goal.invariant-loop-i
invariant-loop-i l =
    (length l.next ≡ length l.initial.next) × (length l.items ≡ length l.initial.items)
    × Opening l.sheet.cells.now (take l.m l.initial.items) l.initial.next l.next l.items l.k l.i

abbrev pub decreases-loop-i : goal.decreases-loop-i
decreases-loop-i l = l.sheet.n - l.i
