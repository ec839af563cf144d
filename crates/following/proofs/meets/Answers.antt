use mathlib.Core.Path.{refl}
use mathlib.Core.Bool.{false}
use Prim.Native.Nat.{◌+◌, ◌*◌}
use native.Mathlib.Omega.{arith}
use lib.Bits.{bit_and, and_le_r}
use lib.ListN.{get_or}
use Rattle.order.proofs.Tests.{both_ways}
use Rattle.following.proofs.Words.{apart_turn, meets_here, meets_none}
use Rattle.following.proofs.meets.Goals as goal

pub returns-then-square-a-ne0 : goal.returns-then-square-a-ne0
returns-then-square-a-ne0 c =
    let args = c.args in
    let x = get_or args.square.now (args.v * args.w + c.loop-j.j) 0 in
    let y = get_or args.left.now c.loop-j.j 0 in
    (λ _. meets_here _ _ _ _ _ c.loop-j-test.true (bit_and x y) refl (omega (arith, c.if-square-a-ne0.true)) (omega (arith, and_le_r x y, c.type_inv.left c.loop-j.j)), λ _. refl)

pub loop-j-preserved : goal.loop-j-preserved
loop-j-preserved c =
    let inv = c.loop-j.invariant in
    (omega arith, apart_turn _ _ _ _ _ c.loop-j-test.true inv.1 c.if-square-a-ne0.false)

pub returns : goal.returns
returns c = (λ e. both_ways false e refl, λ m. absurd (meets_none _ _ _ _ (λ q h. c.loop-j.invariant.1 q (omega (arith, c.loop-j-test.false))) m))
