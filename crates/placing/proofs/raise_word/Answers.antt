use mathlib.Core.Path.{refl, ap}
use Prim.Native.Nat.{◌<◌}
use native.Mathlib.Omega.{arith}
use lib.ListN.{length}
use Rattle.order.specs.LabelLists.{count, ◌∈◌}
use Rattle.marks.specs.Walk.{word_left}
use Rattle.placing.proofs.Counts.{eq_one, raised_one}
use Rattle.placing.proofs.raise_word.Goals as goal
use Rattle.placing.proofs.raise_word.Goals.{In-Some}

-- the mark at hand is one of the word's
module _ (c : In-Some) where
  own : c.in-Some.p ∈ word_left c.args.word
  own = let p = c.in-Some.p in omega (arith, ap (count p) c.in-Some.ensures.steps, eq_one p p refl, c.loop-p.invariant.2 p)

  inside : c.in-Some.p < length c.args.unmet.now
  inside = c.requires.0 c.in-Some.p own

pub offset_bounds-unmet-p : goal.offset_bounds-unmet-p
offset_bounds-unmet-p c = omega (arith, inside (goal.at.offset_bounds-unmet-p c).In-Some)

pub bounds-unmet-p : goal.bounds-unmet-p
bounds-unmet-p c = omega (arith, inside (goal.at.bounds-unmet-p c).In-Some)

pub overflow_add-unmet : goal.overflow_add-unmet
overflow_add-unmet c =
    let p = c.in-Some.p in
    omega (arith, c.loop-p.invariant.3 p, ap (count p) c.in-Some.ensures.steps, eq_one p p refl, c.requires.1 p (own (goal.at.overflow_add-unmet c).In-Some))

pub loop-p-init : goal.loop-p-init
loop-p-init c =
    let e = c.into_iter-p-iterator.ensures.into_iter_gives in
    (tt, tt, λ x. omega (arith, ap (λ walk. count x (word_left walk)) e), λ x. omega (arith, ap (λ walk. count x (word_left walk)) e))

pub loop-p-preserved : goal.loop-p-preserved
loop-p-preserved c =
    let turn = (goal.at.loop-p-preserved c).In-Some in
    let room : c.in-Some.p < length c.loop-p.unmet = omega (arith, inside turn) in (
      tt,
      tt,
      λ x. omega (arith, ap (count x) c.in-Some.ensures.steps, c.loop-p.invariant.2 x),
      λ x. omega (arith, ap (count x) c.in-Some.ensures.steps, c.loop-p.invariant.3 x, raised_one c.loop-p.unmet c.in-Some.p room x),
    )

pub returns : goal.returns
returns c = λ x. omega (arith, ap (count x) c.in-None.ensures.steps.0, c.loop-p.invariant.3 x)
