use mathlib.Core.Path.{◌≡◌}
use mathlib.Core.Bool.{false}
use Prim.Native.Nat.{ℕ, ◌≤◌, ◌<◌}
use native.Mathlib.Omega.{arith}
use Rattle.std.proofs.Common.{Some, None, MatchOption}
use Rattle.std.specs.Iterator.{YieldsFirst}
use Rattle.marks.specs.Walk.{marks_left}
use Rattle.placing.specs.UnmetCounts.{needed}
use Rattle.placing.proofs.Ordered.{none_free, first_free}
use Rattle.placing.proofs.first_needing.Goals as goal

pub returns : goal.returns
returns c =
    let args = c.args in
    let walk = c.common_marks_within in
    let none = none_free args.square.now args.mask.now args.w args.q _ (marks_left walk.result) walk.ensures.counted in
    let some = first_free args.square.now args.mask.now args.w args.q _ (marks_left walk.result) walk.ensures.counted in
    elim c.next.result as (λ r. YieldsFirst marks_left walk.result r c.next.new.self → MatchOption r ((p : ℕ) → p ≤ args.q → needed args.square.now args.mask.now args.w p args.q ≡ false)
    (λ x. (p : ℕ) → p < x → needed args.square.now args.mask.now args.w p args.q ≡ false)) [
      | None ↦ λ e p h. none e.0 p (omega arith)
      | Some x ↦ λ e. some x _ walk.ensures.rising e
    ] c.next.ensures.steps
