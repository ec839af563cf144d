use mathlib.Core.Path.{◌≡◌, ◌∙◌}
use Prim.Native.Nat.{◌+◌}
use lib.Seq.{slice}
use Rattle.paths.specs.Names.{same_name}
use Rattle.paths.proofs.SameName.{compare_start, one_same, compare_turn, compare_miss, compare_done}
use native.Mathlib.Omega.{arith}
use Rattle.paths.proofs.same_tail.Goals as goal
use Rattle.paths.proofs.same_tail.Goals.{After-same_but_case}

-- the byte that is compared is a part of one byte
one_compared : (c : After-same_but_case) →
    let a = c.args in
    c.same_but_case.result ≡ same_name (slice (a.a + c.loop-i.i) (a.a + c.loop-i.i + 1) a.text.now) (slice (a.b + c.loop-i.i) (a.b + c.loop-i.i + 1) a.text.now)
one_compared c =
    let a = c.args in
    c.same_but_case.ensures ∙ one_same a.text.now (a.a + c.loop-i.i) (a.b + c.loop-i.i) (omega arith) (omega arith)

pub loop-i-init : goal.loop-i-init
loop-i-init c =
    let a = c.args in
    compare_start a.text.now a.a a.b a.size c.requires.0 c.requires.1

pub loop-i-preserved : goal.loop-i-preserved
loop-i-preserved c = compare_turn c.loop-i.invariant 1 (omega arith) (one_compared (goal.at.loop-i-preserved c).After-same_but_case) c.if-not-same_but_case.false

pub returns-then-not-same_but_case : goal.returns-then-not-same_but_case
returns-then-not-same_but_case c = compare_miss c.loop-i.invariant 1 (omega arith) (one_compared (goal.at.returns-then-not-same_but_case c).After-same_but_case) c.if-not-same_but_case.true

pub returns : goal.returns
returns c = compare_done c.loop-i.invariant (omega arith)
