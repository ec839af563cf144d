use mathlib.Core.Path.{◌≡◌, sym, ap, ◌∙◌}
use native.Mathlib.Omega.{arith}
use borrow.Author.Rules.{rules}
use lib.IntN.{pos}
use lib.ListN.{get_or}
use mir.Syntax.{w64}
use mir.Val.{SFits}
use Rattle.std.proofs.lemmas.Int.{to_z-of_z}
use Rattle.cells.specs.Cells.{nat_of, nat_at}
use Rattle.marks.proofs.Squares.{mark_in}
use Rattle.reach.specs.FoundPlace.{found_place}
use Rattle.following.proofs.Steps.{place_at}
use Rattle.following.proofs.Taken.{left_turn, wrong_here, wrong_turn}
use Rattle.following.proofs.first_wrong.Goals as goal
use Rattle.following.proofs.first_wrong.Goals.{After-nat_of-label}

-- the label that is read
module _ (c : After-nat_of-label) where
  label_is : c.nat_of-label.result ≡ nat_at c.args.order.now c.loop-i.i
  label_is =
      let fits : SFits w64 (get_or c.args.order.now c.loop-i.i (pos 0)) = search rules in
      c.nat_of-label.ensures ∙ ap nat_of (to_z-of_z w64 (get_or c.args.order.now c.loop-i.i (pos 0)) fits)

pub drop_mark-requires-clause-in_square : goal.drop_mark-requires-clause-in_square
drop_mark-requires-clause-in_square c = (mark_in _ _ _ _ (sym c.holds.ensures ∙ c.if-not-holds.false), omega (arith, c.loop-i.invariant.0, c.requires.0))

pub returns-then-not-holds-clause-value : goal.returns-then-not-holds-clause-value
returns-then-not-holds-clause-value c =
    let e = label_is (goal.at.returns-then-not-holds-clause-value c).After-nat_of-label in
    place_at c.loop-i.i
    ∙ ap found_place (sym (wrong_here c.args.order.now _ _ _ _ c.loop-i.invariant.2 c.loop-i-test.true _ e (sym c.holds.ensures ∙ c.if-not-holds.true)) ∙ c.loop-i.invariant.3)

pub loop-i-preserved : goal.loop-i-preserved
loop-i-preserved c =
    let o = c.args.order.now in
    let taken = c.loop-i-test.true in
    let e = label_is (goal.at.loop-i-preserved c).After-nat_of-label in (
      c.drop_mark.auto.s ∙ c.loop-i.invariant.0,
      omega (arith, taken),
      left_turn o _ _ _ _ c.loop-i.invariant.2 taken _ e _ c.drop_mark.ensures,
      wrong_turn o _ _ _ _ c.loop-i.invariant.2 taken _ e (sym c.holds.ensures ∙ c.if-not-holds.false) ∙ c.loop-i.invariant.3,
    )
