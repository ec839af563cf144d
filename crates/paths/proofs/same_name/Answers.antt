-- Eight bytes are compared as one part; what is left below eight is `same_tail`'s.
use mathlib.Core.Path.{◌≡◌, ◌∙◌}
use Prim.Native.Nat.{◌+◌, ◌*◌, ◌≤◌}
use native.Mathlib.Omega.{arith}
use Rattle.paths.proofs.SameName.{lowered_same, compare_turn, compare_miss}
use Rattle.paths.proofs.same_name.Goals as goal

pub loop-word-preserved : goal.loop-word-preserved
loop-word-preserved c =
    let behind : 8 * (c.loop-word.word + 1) ≡ 8 * c.loop-word.word + 8 = omega arith in
    let fits : 8 * c.loop-word.word + 8 ≤ c.args.size = omega arith in
    rw behind (compare_turn c.loop-word.invariant 8 fits (c.same_eight.ensures ∙ lowered_same _ _) c.if-not-same_eight.false)

pub returns-then-not-same_eight : goal.returns-then-not-same_eight
returns-then-not-same_eight c =
    let fits : 8 * c.loop-word.word + 8 ≤ c.args.size = omega arith in
    compare_miss c.loop-word.invariant 8 fits (c.same_eight.ensures ∙ lowered_same _ _) c.if-not-same_eight.true
