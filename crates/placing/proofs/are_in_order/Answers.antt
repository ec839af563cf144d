use mathlib.Core.Path.{◌≡◌}
use native.Mathlib.Omega.{arith}
use borrow.Author.Rules.{rules}
use Prim.Native.Nat.{ℕ, ◌≤◌}
use mathlib.Core.Bool.{false}
use Rattle.placing.specs.UnmetCounts.{needed}
use Rattle.order.specs.LabelLists.{◌∈◌}
use Rattle.placing.proofs.Lists.{in_at}
use Rattle.placing.proofs.Ordered.{ordered_turn}
use Rattle.placing.proofs.are_in_order.Goals as goal
use Rattle.placing.proofs.are_in_order.Goals.{In_default, in_default-via-in-None-1, in_default-via-in-Some+else-p-q}

unneeded : (c : In_default) → (p : ℕ) → p ≤ c.from-q.result → needed c.args.square.now c.args.mask.now c.args.w p c.from-q.result ≡ false
unneeded c p h =
    elim c.in_default.branch [
      | in_default-via-in-None-1 w ↦ search (rules, h)
      | in_default-via-in-Some+else-p-q w ↦ w.in-Some.ensures p (omega (arith, w.if-p-q.false))
    ]

pub first_needing-requires : goal.first_needing-requires
first_needing-requires c =
    let r = c.requires in
    let m : c.from-q.result ∈ c.args.items.now = rw c.from-q.ensures (in_at c.args.items.now c.loop-x.x-index c.loop-x-test.true) in
    (r.narrow, r.below _ m, r.rows _ m, r.mask_room)

pub loop-x-preserved : goal.loop-x-preserved
loop-x-preserved c = ordered_turn _ _ c.loop-x.x-index _ c.loop-x-test.true c.from-q.ensures (unneeded c) c.loop-x.invariant
