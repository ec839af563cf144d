use mathlib.Core.Path.{◌≡◌}
use mathlib.Core.List.{[]}
use Prim.Native.Nat.{◌≤◌}
use lib.ListN.{length, take}
use Rattle.order.specs.Following.{labels_of, first_position}
use Rattle.following.specs.Left.{Left, lacks, awaits}
use Rattle.following.proofs.Steps.{onward}
use Rattle.following.proofs.first_early.Given as goal

abbrev pub invariant-loop-k : goal.invariant-loop-k
invariant-loop-k l =
    (length l.left ≡ length l.initial.left) × (l.k ≤ length l.order) × Left l.initial.left l.w (take l.k (labels_of l.order)) l.left
    × (onward (lacks l.initial.left l.w) (labels_of l.order) l.k ≡ 0)
    × (onward (awaits l.square l.initial.left l.w) (labels_of l.order) l.k ≡ first_position (awaits l.square l.initial.left l.w) [] 1 (labels_of l.order))
