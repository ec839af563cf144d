-- Row 10, by the kinds of the two.
use mathlib.Core.Path.{◌≡◌, ◌∙◌, sym}
use native.Mathlib.Omega.{arith}
use borrow.Author.Tests.{lt-ltb, le-ltb}
use Rattle.kinds.specs.Kinds.{takes, argument_place}
use Rattle.cells.specs.Table.{kind, owner}
use Rattle.tree.proofs.Coded.{place_none, place_some, takes_none, takes_some}
use Rattle.tree.proofs.argument_bad.Goals as goal
use Rattle.tree.proofs.argument_bad.Goals.{After-argument_place-place}

-- the place of a line that has a kind
module _ (c : After-argument_place-place) where
  place : c.argument_place-place.result ≡ argument_place (kind c.args.table.now c.args.label)
  place =
      let coded = sym c.of_code.ensures ∙ c.in_ok-of_code.was in
      rw c.label_cell.ensures at (c.argument_place-place.ensures ∙ place_some _ _ coded)

pub returns-in_err-of_code : goal.returns-in_err-of_code
returns-in_err-of_code c =
    let z : argument_place (kind c.args.table.now c.args.label) ≡ 0 = rw c.label_cell.ensures at (place_none c.label_cell.result (sym c.of_code.ensures ∙ c.in_err-of_code.was)) in
    c.from_residual.ensures ∙ rw (z, le-ltb (takes (kind c.args.table.now (owner c.args.table.now c.args.label))) 0 (omega arith))

pub returns-then-place-eq0 : goal.returns-then-place-eq0
returns-then-place-eq0 c =
    let z : argument_place (kind c.args.table.now c.args.label) ≡ 0 = sym (place (goal.at.returns-then-place-eq0 c).After-argument_place-place) ∙ c.if-place-eq0.true in
    rw (z, le-ltb (takes (kind c.args.table.now (owner c.args.table.now c.args.label))) 0 (omega arith))

pub returns-in-Some : goal.returns-in-Some
returns-in-Some c =
    let p = place (goal.at.returns-in-Some c).After-argument_place-place in
    let t : c.takes.result ≡ takes (kind c.args.table.now (owner c.args.table.now c.args.label)) =
    rw c.label_cell-owner.ensures at (c.takes.ensures ∙ takes_some _ _ (sym c.kind_at.ensures ∙ c.in-Some.is)) in
    rw (← p, ← t, le-ltb c.takes.result c.argument_place-place.result c.if-place-takes.true)

pub returns-in_default : goal.returns-in_default
returns-in_default c =
    let p = place (goal.at.returns-in_default c).After-argument_place-place in
    let t : c.takes.result ≡ takes (kind c.args.table.now (owner c.args.table.now c.args.label)) =
    rw c.label_cell-owner.ensures at (c.takes.ensures ∙ takes_some _ _ (sym c.kind_at.ensures ∙ c.in-Some.is)) in
    rw (← p, ← t, lt-ltb c.takes.result c.argument_place-place.result c.if-place-takes.false)

pub returns-in_default-2 : goal.returns-in_default-2
returns-in_default-2 c =
    let p = place (goal.at.returns-in_default-2 c).After-argument_place-place in
    let t : takes (kind c.args.table.now (owner c.args.table.now c.args.label)) ≡ 0 =
    rw c.label_cell-owner.ensures at (takes_none _ (sym c.kind_at.ensures ∙ c.in_default.is)) in
    rw (← p, t, lt-ltb 0 c.argument_place-place.result (omega arith))
