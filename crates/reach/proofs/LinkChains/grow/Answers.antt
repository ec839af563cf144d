use mathlib.Core.Path.{◌≡◌, refl, subst}
use mathlib.Core.Logic.{◌⊎◌, inl, inr}
use Prim.Native.Nat.{ℕ, ◌+◌, ◌-◌, ◌≤◌}
use native.Mathlib.Omega.{arith}
use lib.ListN.{length, get_or, take}
use lib.Seq.{length-take-le}
use Rattle.cells.specs.Table.{cell}
use Rattle.reach.specs.declared.RowState.TheVariants.{New, Made}
use Rattle.reach.specs.Links.{Column, Link, Links, once, then}
use Rattle.reach.specs.MarkRows.{MarkRow}
use Rattle.reach.specs.Chains.{Hangs, Last}
use Rattle.reach.proofs.Links.{column_of, body_label}
use Rattle.reach.proofs.Spread.{growing_start, growing_turn, growing_end, row_above, rows_kept}
use Rattle.reach.proofs.LinkChains.grow.Goals as goal
use Rattle.reach.proofs.LinkChains.grow.Goals.{In-loop-x}

-- in a turn: the line at hand, and where its link leads
module _ (c : In-loop-x) where
  column :
      Column c.args.self.now.column
  column = column_of _ c.args.self.now.column_is

  hangs :
      Hangs c.args.self.now.sheet.cells.now c.args.self.now.column c.args.e c.loop-x.x
  hangs = c.loop-x.invariant.1 c.loop-x-test.true

  line :
      (1 ≤ c.loop-x.x) × (c.loop-x.x ≤ c.args.self.now.sheet.n)
  line = let z : c.loop-x.x ≡ 0 → ⊥ = c.loop-x-test.true in (omega arith, c.loop-x.invariant.0)

  last :
      Last c.args.self.now.sheet.cells.now c.args.self.now.column c.args.e (c.loop-x.x - 1) (get_or c.args.self.now.links.now (c.args.self.now.sheet.n + c.loop-x.x) 0)
  last = c.args.self.now.chained.links c.loop-x.x c.args.e line.1 hangs

  way :
      Links c.args.self.now.sheet.cells.now c.args.self.now.column c.args.d (cell c.args.self.now.sheet.cells.now c.loop-x.x c.args.self.now.column)
  way =
      go c.requires.linked.1
    where
      link :
          Link c.args.self.now.sheet.cells.now c.args.self.now.column c.args.e (cell c.args.self.now.sheet.cells.now c.loop-x.x c.args.self.now.column)
      link = record { line = c.loop-x.x; path = hangs.path; from = hangs.from; to = refl }

      go :
          (c.args.e ≡ c.args.d) ⊎ Links c.args.self.now.sheet.cells.now c.args.self.now.column c.args.d c.args.e
          → Links c.args.self.now.sheet.cells.now c.args.self.now.column c.args.d (cell c.args.self.now.sheet.cells.now c.loop-x.x c.args.self.now.column)
      go (inl z) =
          once (subst (λ (y : ℕ). Link c.args.self.now.sheet.cells.now c.args.self.now.column y (cell c.args.self.now.sheet.cells.now c.loop-x.x c.args.self.now.column)) z link)
      go (inr r) = then r link

  -- rows that are made are as they were
  made :
      (f : ℕ) → get_or c.args.state.now f New ≡ Made
      → MarkRow c.args.self.now.sheet.cells.now c.args.self.now.sheet.n c.args.self.now.column c.loop-x.square f
  made f m =
      let p = c.requires in
      rows_kept _ _ c.args.self.now.sheet.accepted _ column c.args.d c.args.state.now c.args.square.now c.loop-x.square p.d_le_n.1 p.by_index
      c.loop-x.invariant.3.others f m

pub loop-x-init : goal.loop-x-init
loop-x-init c =
    let p = c.requires in
    let s = p.spread in
    let ok = c.args.self.now.sheet.accepted in
    let l = c.args.self.now.chained.heads c.args.e (body_label _ _ ok _ p.linked.0).1 in
    let high : c.args.top ≤ length c.args.stack.now = omega (arith, s.1, p.room.heights) in
    rw c.from-x.ensures (
      l.within,
      l.hangs,
      s.1,
      growing_start _ _ ok _ (column_of _ c.args.self.now.column_is) _ _ _ _ (take c.args.top c.args.stack.now) _ (length-take-le c.args.top c.args.stack.now high) s.0 l,
    )

pub meet-height-requires-clause-raised_2 : goal.meet-height-requires-clause-raised_2
meet-height-requires-clause-raised_2 c =
    let turn = (goal.at.meet-height-requires-clause-raised_2 c).In-loop-x in
    λ m. row_above _ _ c.args.self.now.sheet.accepted _ (column turn) c.end-f.result c.loop-x.square (made turn c.end-f.result m)

pub loop-x-smaller : goal.loop-x-smaller
loop-x-smaller c =
    let turn = (goal.at.loop-x-smaller c).In-loop-x in
    omega (arith, c.before-x.ensures, (last turn).within, line turn)

pub loop-x-preserved : goal.loop-x-preserved
loop-x-preserved c =
    let turn = (goal.at.loop-x-preserved c).In-loop-x in
    let x = last turn in
    let f = cell c.args.self.now.sheet.cells.now c.loop-x.x c.args.self.now.column in
    let more = growing_turn _ _ c.args.self.now.sheet.accepted _ (column turn) _ _ _ _ _ (take c.loop-x.height c.loop-x.stack) _ c.loop-x.invariant.3 _ x
    c.args.state.now c.loop-x.stack c.loop-x.height refl (omega (arith, c.loop-x.invariant.2, c.requires.room.heights, c.loop-x.auto.stack))
    (way turn) (made turn f) _ _ c.meet-height.result c.meet-height.auto.stack _ c.end-f.ensures.end c.meet-height.ensures in
    rw c.before-x.ensures (
      omega (arith, x.within, line turn),
      x.hangs,
      more.1,
      more.0,
    )

pub returns : goal.returns
returns c = (
  growing_end _ _ c.args.self.now.sheet.accepted _ (column_of _ c.args.self.now.column_is) _ _ _ _ _ (take c.loop-x.height c.loop-x.stack) _ c.loop-x-test.false
      c.loop-x.invariant.3 _ _ refl (omega (arith, c.loop-x.invariant.2, c.requires.room.heights, c.loop-x.auto.stack)),
  c.loop-x.invariant.2,
)
