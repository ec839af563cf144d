use mathlib.Core.Path.{◌≡◌, refl, subst}
use Prim.Native.Nat.{ℕ, ◌+◌, ◌-◌}
use native.Mathlib.Omega.{arith}
use lib.ListN.{get_or}
use Rattle.blocks.specs.Search.{Smallest}
use Rattle.blocks.proofs.Parts.{LowerOf, smallest_turn, min_lower, part_at}
use Rattle.blocks.proofs.smallest.Goals as goal

pub loop-x-preserved : goal.loop-x-preserved
loop-x-preserved c =
    let s = c.args.s in
    let i = c.loop-x.x-index in
    let stack = c.args.stack.now in
    let part = part_at stack (s + 1) (c.args.n - (s + 1)) i c.loop-x-test.true in
    let lower : LowerOf c.loop-x.least (get_or stack (s + 1 + i) 0) c.min-least.result = rw (c.min-least.ensures, part.0) (min_lower c.loop-x.least (get_or stack (s + 1 + i) 0)) in
    let e : s + 1 + i + 1 ≡ s + 1 + (i + 1) = omega arith in
    subst (λ (n : ℕ). Smallest stack s n c.min-least.result) e (smallest_turn stack s (s + 1 + i) c.loop-x.least _ c.min-least.result (omega arith) c.loop-x.invariant refl lower)
