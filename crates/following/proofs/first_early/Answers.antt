use mathlib.Core.Path.{◌≡◌, sym, ap, ◌∙◌}
use native.Mathlib.Omega.{arith}
use borrow.Author.Rules.{rules}
use lib.IntN.{pos}
use lib.ListN.{get_or, take}
use mir.Syntax.{w64}
use mir.Val.{SFits}
use Rattle.std.proofs.lemmas.Int.{to_z-of_z}
use Rattle.cells.specs.Cells.{nat_of, nat_at}
use mathlib.Core.Bool.{true}
use Rattle.order.specs.Following.{labels_of}
use Rattle.order.proofs.Tests.{both_ways}
use Rattle.marks.specs.Marks.{mark}
use Rattle.marks.proofs.Squares.{mark_in}
use Rattle.reach.specs.FoundPlace.{found_place}
use Rattle.following.proofs.Steps.{place_at}
use Rattle.following.proofs.Taken.{held_row, left_turn, wrong_turn, label_held, early_here, early_turn}
use Rattle.following.proofs.first_early.Goals as goal
use Rattle.following.proofs.first_early.Goals.{After-nat_of-v}

-- the label that is read
module _ (c : After-nat_of-v) where
  label_is : c.nat_of-v.result ≡ nat_at c.args.order.now c.loop-k.k
  label_is =
      let fits : SFits w64 (get_or c.args.order.now c.loop-k.k (pos 0)) = search rules in
      c.nat_of-v.ensures ∙ ap nat_of (to_z-of_z w64 (get_or c.args.order.now c.loop-k.k (pos 0)) fits)

  -- it has its mark still
  held : mark c.loop-k.left c.args.w 0 c.nat_of-v.result ≡ true
  held = label_held c.args.order.now _ _ _ _ c.loop-k.invariant.2 c.loop-k-test.true _ label_is c.loop-k.invariant.3

pub meets-requires : goal.meets-requires
meets-requires c =
    let m = held (goal.at.meets-requires c).After-nat_of-v in (
      c.requires.by_index _ (held_row _ _ (take c.loop-k.k (labels_of c.args.order.now)) _ c.loop-k.invariant.2 _ m),
      omega (arith, c.requires.w_in_bounds, c.loop-k.invariant.0),
    )

pub returns-then-meets : goal.returns-then-meets
returns-then-meets c =
    let e = label_is (goal.at.returns-then-meets c).After-nat_of-v in
    place_at c.loop-k.k
    ∙ ap found_place (sym (early_here c.args.order.now _ _ _ _ c.loop-k.invariant.2 c.loop-k-test.true _ e _ (c.meets.ensures.0 c.if-meets.true)) ∙ c.loop-k.invariant.4)

pub drop_mark-requires : goal.drop_mark-requires
drop_mark-requires c =
    let m = held (goal.at.drop_mark-requires c).After-nat_of-v in record {
      in_square = (mark_in _ _ _ _ m, omega (arith, c.loop-k.invariant.0, c.requires.w_in_bounds));
      q_value = m;
    }

pub loop-k-preserved : goal.loop-k-preserved
loop-k-preserved c =
    let o = c.args.order.now in
    let taken = c.loop-k-test.true in
    let at = (goal.at.loop-k-preserved c).After-nat_of-v in
    let e = label_is at in (
      c.drop_mark.auto.s ∙ c.loop-k.invariant.0,
      omega (arith, taken),
      left_turn o _ _ _ _ c.loop-k.invariant.2 taken _ e _ c.drop_mark.ensures,
      wrong_turn o _ _ _ _ c.loop-k.invariant.2 taken _ e (held at) ∙ c.loop-k.invariant.3,
      early_turn o _ _ _ _ c.loop-k.invariant.2 taken _ e _ (λ m. both_ways _ (c.meets.ensures.1 m) c.if-meets.false) ∙ c.loop-k.invariant.4,
    )
