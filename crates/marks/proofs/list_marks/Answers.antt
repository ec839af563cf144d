use mathlib.Core.Path.{◌≡◌, sym, ap, ◌∙◌, subst}
use mathlib.Core.List.{List, [], ◌∷◌, ◌++◌, append_assoc, append-nil}
use mathlib.Core.Bool.{◌&&◌}
use Prim.Native.Nat.{ℕ, ◌+◌, ◌*◌, ◌<◌}
use native.Mathlib.Omega.{arith}
use native.Mathlib.Numerals.{add-one}
use lib.ListN.{length, take, set}
use lib.Seq.{take-suc-set}
use Rattle.order.specs.LabelLists.{count, ◌∈◌}
use Rattle.order.proofs.Tests.{and_left, one_in}
use Rattle.order.proofs.Lists.{in_here, in_right}
use Rattle.marks.specs.Marks.{mark, Rising}
use Rattle.marks.specs.Walk.{marks_left}
use Rattle.marks.proofs.Squares.{mark_in}
use Rattle.marks.proofs.list_marks.Goals as goal
use Rattle.marks.proofs.list_marks.Goals.{In-Some}

listed : (l : List ℕ) (m v : ℕ) (r : List ℕ) → m < length l → take (m + 1) (set l m v) ++ r ≡ take m l ++ v ∷ r
listed l m v r h = rw (add-one, take-suc-set l m v) (append_assoc (take m l) (v ∷ []) r)

-- the mark at hand is one of the row's
below : (c : In-Some) → c.in-Some.q < 64 * c.args.w
below c =
    let all = take c.loop-q.m c.loop-q.list in
    let i : c.in-Some.q ∈ all ++ marks_left c.loop-q.q-iterator =
    in_right c.in-Some.q all (marks_left c.loop-q.q-iterator) (subst (λ (l : List ℕ). c.in-Some.q ∈ l) (sym c.in-Some.ensures.steps) (in_here _ _)) in
    let args = c.args in
    let own = mark args.s.now args.w args.p c.in-Some.q in
    let masked = mark args.mask.now args.w 0 c.in-Some.q in
    mark_in _ _ _ _ (and_left own masked (one_in (own && masked) (omega (arith, i, c.loop-q.invariant.3 c.in-Some.q))))

pub overflow_cast-list : goal.overflow_cast-list
overflow_cast-list c = omega (arith, below (goal.at.overflow_cast-list c).In-Some)

pub loop-q-preserved : goal.loop-q-preserved
loop-q-preserved c =
    let inv = c.loop-q.invariant in
    let step = ap (λ (l : List ℕ). take c.loop-q.m c.loop-q.list ++ l) c.in-Some.ensures.steps in
    let room : c.loop-q.m < length c.loop-q.list = omega (arith, ap length c.in-Some.ensures.steps, inv.2) in
    let e = listed c.loop-q.list c.loop-q.m c.in-Some.q (marks_left c.next.new.self) room ∙ sym step in
    (tt, tt, omega (arith, ap length c.in-Some.ensures.steps, inv.2), λ q. ap (count q) e ∙ inv.3 q, subst Rising (sym e) inv.4)

pub returns : goal.returns
returns c =
    let inv = c.loop-q.invariant in
    let e = ap (λ (l : List ℕ). take c.loop-q.m c.loop-q.list ++ l) c.in-None.ensures.steps.0 ∙ append-nil (take c.loop-q.m c.loop-q.list) in
    (λ q. ap (count q) (sym e) ∙ inv.3 q, omega (arith, inv.2), subst Rising e inv.4)
