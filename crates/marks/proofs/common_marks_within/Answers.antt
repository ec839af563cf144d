use mathlib.Core.Path.{◌≡◌, sym, ap, ◌∙◌, subst}
use mathlib.Core.List.{List}
use Prim.Native.Nat.{ℕ, ◌+◌, ◌-◌, ◌*◌, ◌≤◌, ◌<◌}
use native.Mathlib.Omega.{arith}
use lib.ListN.{length, get_or, take, drop}
use lib.Seq.{get_or-take, length-take-le}
use Rattle.std.proofs.lemmas.List.{get_or-drop, length-drop}
use Rattle.order.specs.LabelLists.{count}
use Rattle.marks.specs.Marks.{Rising}
use Rattle.marks.proofs.Walking.{shared_marks, shared_rising, shared_few}
use Rattle.marks.proofs.common_marks_within.Goals as goal

row_long : (s : List ℕ) (a k n : ℕ) → n ≡ k → a + k ≤ length s → length (take n (drop a s)) ≡ k
row_long s a k n e h = rw e (length-take-le k (drop a s) (omega (arith, length-drop a s)))

row_at : (s : List ℕ) (a k n : ℕ) → n ≡ k → (j : ℕ) → j < k → get_or (take n (drop a s)) j 0 ≡ get_or s (a + j) 0
row_at s a k n e j h = rw e (get_or-take k (drop a s) j 0 h ∙ get_or-drop a s j 0)

pub returns-clause-counted : goal.returns-clause-counted
returns-clause-counted c =
    let args = c.args in
    let a = args.p * args.w in
    let n : a + args.k - a ≡ args.k = omega arith in
    λ q. ap (count q) c.new.ensures
    ∙ shared_marks args.s.now args.mask.now args.w args.p args.k c.requires.3 _ _ (row_long args.s.now a args.k _ n (omega arith))
    (length-take-le args.k args.mask.now (omega arith)) (row_at args.s.now a args.k _ n) (λ j h. get_or-take args.k args.mask.now j 0 h) q

pub returns-clause-rising : goal.returns-clause-rising
returns-clause-rising c = subst Rising (sym c.new.ensures) (shared_rising _ _ _)

pub returns-clause-few : goal.returns-clause-few
returns-clause-few c =
    let args = c.args in
    let a = args.p * args.w in
    let n : a + args.k - a ≡ args.k = omega arith in
    let row = take (a + args.k - a) (drop a args.s.now) in
    omega (arith, ap length c.new.ensures, shared_few 0 row (take args.k args.mask.now), row_long args.s.now a args.k _ n (omega arith))
