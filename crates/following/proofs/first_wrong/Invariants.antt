use mathlib.Core.Path.{◌≡◌}
use mathlib.Core.List.{[]}
use Prim.Native.Nat.{◌≤◌}
use lib.ListN.{length, take}
use Rattle.order.specs.Following.{labels_of, first_position}
use Rattle.following.specs.Left.{Left, lacks}
use Rattle.following.proofs.Steps.{onward}
use Rattle.following.proofs.first_wrong.Given as goal

abbrev pub invariant-loop-i : goal.invariant-loop-i
invariant-loop-i l =
    (length l.left ≡ length l.initial.left) × (l.i ≤ length l.order) × Left l.initial.left l.w (take l.i (labels_of l.order)) l.left
    × (onward (lacks l.initial.left l.w) (labels_of l.order) l.i ≡ first_position (lacks l.initial.left l.w) [] 1 (labels_of l.order))
