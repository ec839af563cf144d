use mathlib.Core.Path.{◌≡◌, sym, ◌∙◌, subst}
use Prim.Native.Nat.{ℕ, ◌+◌, ◌-◌, ◌*◌, ◌≤◌}
use native.Mathlib.Omega.{arith}
use lib.ListN.{length}
use Rattle.reach.proofs.Reading.{row_room}
use Rattle.needs.specs.Needs.{Lifting}
use Rattle.reach.specs.MarkRows.{width}
use Rattle.needs.proofs.Lifts.{lifting_start, lifting_skip, lifting_turn}
use Rattle.needs.proofs.lift.Goals as goal
use Rattle.needs.proofs.lift.Goals.{In-loop-k}

-- the label at hand
module _ (c : In-loop-k) where
  low :
      2 ≤ c.loop-k.k - 1
  low = omega (arith, c.loop-k-test.true)

  high :
      c.loop-k.k - 1 ≤ c.args.sheet.n
  high = omega (arith, c.loop-k.auto.k)

pub loop-k-init : goal.loop-k-init
loop-k-init c =
    let ok = c.args.sheet.accepted in
    let z : c.args.sheet.n ≡ c.args.sheet.n + 1 - 1 = omega arith in
    (omega (arith, ok.some), subst (λ (k : ℕ). Lifting c.args.sheet.cells.now c.args.sheet.n k c.args.square.now) z (lifting_start _ _ ok _ c.requires.all_mark_rows))

pub merge_row-requires : goal.merge_row-requires
merge_row-requires c =
    let k = (goal.at.merge_row-requires c).In-loop-k in
    let r : (c.args.sheet.n + 1) * width c.args.sheet.n ≤ length c.loop-k.square = omega (arith, c.requires.room, c.loop-k.auto.square) in
    let b : c.cell-o.result ≤ c.args.sheet.n = omega (arith, c.cell-o.ensures, c.args.sheet.accepted.falls (c.loop-k.k - 1) (omega (arith, low k)) (high k), high k) in
    let own = row_room _ _ _ _ (high k) r in
    let group = row_room _ _ _ _ b r in
    (omega arith, omega arith)

pub loop-k-preserved-then-gives_values : goal.loop-k-preserved-then-gives_values
loop-k-preserved-then-gives_values c =
    let k = (goal.at.loop-k-preserved-then-gives_values c).In-loop-k in (
      omega (arith, c.loop-k-test.true),
      lifting_turn _ _ c.args.sheet.accepted _ _ c.loop-k.invariant.1 (low k) (high k) (sym c.gives_values.ensures ∙ c.if-gives_values.true) _ _ c.cell-o.ensures
          c.merge_row.ensures,
    )

pub loop-k-preserved : goal.loop-k-preserved
loop-k-preserved c =
    let k = (goal.at.loop-k-preserved c).In-loop-k in (
      omega (arith, c.loop-k-test.true),
      lifting_skip _ _ c.args.sheet.accepted _ _ c.loop-k.invariant.1 (low k) (high k) (sym c.gives_values.ensures ∙ c.if-gives_values.false),
    )

pub returns : goal.returns
returns c =
    let e : c.loop-k.k - 1 ≡ 1 = omega (arith, c.loop-k.invariant.0, c.loop-k-test.false) in
    subst (λ (k : ℕ). Lifting c.args.sheet.cells.now c.args.sheet.n k c.loop-k.square) e c.loop-k.invariant.1
