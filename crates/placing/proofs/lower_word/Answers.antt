use mathlib.Core.Path.{◌≡◌, refl, sym, ap, ◌∙◌}
use Prim.Native.Nat.{ℕ, ◌-◌, ◌≤◌, ◌<◌}
use mathlib.Core.Logic.{⊎_elim, inl, inr}
use native.Mathlib.Omega.{arith}
use lib.ListN.{length, get_or, set}
use lib.Seq.{get_or-set_same}
use Rattle.order.specs.LabelLists.{count, ◌∈◌}
use Rattle.marks.specs.Walk.{word_left}
use Rattle.placing.proofs.Counts.{eq_one, lowered_none, lowered_on, lowered_turn, lowered_one}
use Rattle.placing.proofs.lower_word.Goals as goal
use Rattle.placing.proofs.lower_word.Goals.{In-Some}

-- the mark at hand is one of the word's
module _ (c : In-Some) where
  found : c.in-Some.p ∈ word_left c.args.word
  found = let p = c.in-Some.p in omega (arith, ap (count p) c.in-Some.ensures.steps, eq_one p p refl, c.loop-p.invariant.2 p)

  inside : c.in-Some.p < length c.loop-p.unmet
  inside = omega (arith, c.requires.below.0 c.in-Some.p found)

  some : 1 ≤ get_or c.loop-p.unmet c.in-Some.p 0
  some =
      let p = c.in-Some.p in
      omega (arith, ap (count p) c.in-Some.ensures.steps, eq_one p p refl, c.loop-p.invariant.2 p, c.loop-p.invariant.3.counts p, c.requires.by_index p)

  -- the count after it is lowered
  own : get_or (set c.loop-p.unmet c.in-Some.p (get_or c.loop-p.unmet c.in-Some.p 0 - 1)) c.in-Some.p 0 ≡ get_or c.loop-p.unmet c.in-Some.p 0 - 1
  own = get_or-set_same c.loop-p.unmet c.in-Some.p (get_or c.loop-p.unmet c.in-Some.p 0 - 1) 0 inside

  fewer : (x : ℕ) → count x (word_left c.next.new.self) ≤ count x (word_left c.args.word)
  fewer x = omega (arith, ap (count x) c.in-Some.ensures.steps, c.loop-p.invariant.2 x)

pub offset_bounds-unmet-p : goal.offset_bounds-unmet-p
offset_bounds-unmet-p c = omega (arith, inside (goal.at.offset_bounds-unmet-p c).In-Some)

pub bounds-unmet-p : goal.bounds-unmet-p
bounds-unmet-p c = inside (goal.at.bounds-unmet-p c).In-Some

pub overflow_sub-unmet : goal.overflow_sub-unmet
overflow_sub-unmet c = some (goal.at.overflow_sub-unmet c).In-Some

pub put_mark-requires : goal.put_mark-requires
put_mark-requires c = (c.requires.below.1 _ (found (goal.at.put_mark-requires c).In-Some), omega (arith, c.requires.below.2))

pub loop-p-init : goal.loop-p-init
loop-p-init c =
    let e = c.into_iter-p-iterator.ensures.into_iter_gives in
    (tt, tt, λ x. omega (arith, ap (λ walk. count x (word_left walk)) e), lowered_none _ (λ x. omega (arith, ap (λ walk. count x (word_left walk)) e)) _ _ _)

pub loop-p-preserved-then-unmet-p-eq0 : goal.loop-p-preserved-then-unmet-p-eq0
loop-p-preserved-then-unmet-p-eq0 c =
    let turn = (goal.at.loop-p-preserved-then-unmet-p-eq0 c).In-Some in
    let add = c.put_mark.ensures in (
      tt,
      tt,
      fewer turn,
      lowered_turn _ _ _ _ c.in-Some.ensures.steps c.loop-p.invariant.2 _ _ _ _ _ _ _ c.loop-p.invariant.3
          (lowered_one _ _ _ _ _ (inside turn) (some turn) add.kept (λ _. add.new _ (c.requires.below.1 _ (found turn)) refl)
          (λ x e. ⊎_elim (λ z. inl z) (λ z. inr (z, sym (own turn) ∙ c.if-unmet-p-eq0.true)) (add.only x e))),
    )

pub loop-p-preserved : goal.loop-p-preserved
loop-p-preserved c =
    let turn = (goal.at.loop-p-preserved c).In-Some in (
      tt,
      tt,
      fewer turn,
      lowered_turn _ _ _ _ c.in-Some.ensures.steps c.loop-p.invariant.2 _ _ _ _ _ _ _ c.loop-p.invariant.3
          (lowered_one _ _ _ _ _ (inside turn) (some turn) (λ x e. e) (λ z. absurd (c.if-unmet-p-eq0.false (own turn ∙ z))) (λ x e. inl e)),
    )

pub returns : goal.returns
returns c =
    let all : ℕ → ℕ = λ x. count x (word_left c.args.word) in
    lowered_on (λ (x : ℕ). all x - count x (word_left c.loop-p.p-iterator)) (λ (x : ℕ). 0) all (λ x. omega (arith, ap (count x) c.in-None.ensures.steps.0)) _ _ _ _ _ _ _
    c.loop-p.invariant.3 (lowered_none _ (λ x. refl) _ _ _)
