use mathlib.Core.Path.{◌≡◌, sym}
use Prim.Native.Nat.{ℕ, ◌+◌, ◌-◌, ◌≤◌, ◌<◌}
use native.Mathlib.Omega.{arith}
use lib.ListN.{length, get_or, set, length-set}
use lib.Seq.{get_or-set_same}
use Rattle.reach.specs.declared.RowState.TheVariants.{New, Begun, Made}
use Rattle.reach.specs.Chains.{Hangs, Last}
use Rattle.reach.proofs.Links.{column_of, body_label}
use Rattle.reach.proofs.Visits.{Going, begin, fewer, finish, going_start, going_still, going_more}
use Rattle.reach.proofs.Spread.{shared}
use Rattle.reach.proofs.LinkChains.+visit.Goals as goal
use Rattle.reach.proofs.LinkChains.+visit.Goals.{At-loop-x, In-loop-x, Joined-state-e, in-New-state, in_default-state}

-- at the loop d is begun, and there is room
module _ {t : ℕ} (c : At-loop-x t) where
  here :
      c.args.d < length c.args.state.now
  here =
      omega (arith, c.requires.room.states, body_label _ _ c.args.self.now.sheet.accepted c.args.d c.requires.mark_rows.1)

  begun :
      get_or (set c.args.state.now c.args.d Begun) c.args.d New ≡ Begun
  begun = get_or-set_same c.args.state.now c.args.d Begun New here

  not_made :
      get_or c.loop-x.state c.args.d New ≡ Made → ⊥
  not_made z = cc (c.loop-x.invariant.1.since.held c.args.d begun)

-- in a turn: the line at hand, and where its link leads
module _ {t : ℕ} (c : In-loop-x t) where
  hangs :
      Hangs c.args.self.now.sheet.cells.now c.args.self.now.column c.args.d c.loop-x.x
  hangs = c.loop-x.invariant.3 c.loop-x-test.true

  line :
      (1 ≤ c.loop-x.x) × (c.loop-x.x ≤ c.args.self.now.sheet.n)
  line = let z : c.loop-x.x ≡ 0 → ⊥ = c.loop-x-test.true in (omega arith, c.loop-x.invariant.2)

  last :
      Last c.args.self.now.sheet.cells.now c.args.self.now.column c.args.d (c.loop-x.x - 1) (get_or c.args.self.now.links.now (c.args.self.now.sheet.n + c.loop-x.x) 0)
  last = c.args.self.now.chained.links c.loop-x.x c.args.d line.1 hangs

-- after e is visited, unless it was begun
module _ {t : ℕ} (c : Joined-state-e t) where
  going :
      Going c.args.self.now.sheet.cells.now c.args.self.now.sheet.n c.args.self.now.column (set c.args.state.now c.args.d Begun) c.args.square.now
      c.match-state-e.state c.match-state-e.square
  going =
      let g = c.loop-x.invariant.1 in
      elim c.match-state-e.branch [
        | in-New-state w ↦ let v = w.visit in
            rw (w.state-is, w.square-is) (going_more _ _ c.args.self.now.sheet.accepted _ _ _ _ _ g _ _ _ v.ensures v.auto.square)
        | in_default-state w ↦ rw (w.state-is, w.square-is) g
      ]

pub loop-x-init : goal.loop-x-init
loop-x-init t c =
    let p = c.requires in
    let ok = c.args.self.now.sheet.accepted in
    let b = body_label _ _ ok c.args.d p.mark_rows.1 in
    let l = c.args.self.now.chained.heads c.args.d b.1 in
    let here : c.args.d < length c.args.state.now = omega (arith, p.room.states, b) in
    let now = going_start _ _ ok _ _ _ (begin _ _ ok _ _ _ _ here c.in-New.is p.mark_rows.1 p.mark_rows.0) in
    rw c.from-x.ensures (
      fewer _ _ ok _ _ _ _ here c.in-New.is p.mark_rows.1 p.mark_rows.0 _ now.since,
      now,
      l.within,
      l.hangs,
    )

pub share_row-requires : goal.share_row-requires
share_row-requires t c =
    let more = going (goal.at.share_row-requires t c).Joined-state-e in
    let ok = c.args.self.now.sheet.accepted in (
      ok.few,
      (body_label _ _ ok c.args.d c.requires.mark_rows.1).1,
      (body_label _ _ ok c.end-e.result c.end-e.ensures.has_body).1,
      omega (arith, c.requires.room.rows, more.squares),
    )

pub returns-then-share_row : goal.returns-then-share_row
returns-then-share_row t c =
    let p = c.requires in
    let ok = c.args.self.now.sheet.accepted in
    let at = (goal.at.returns-then-share_row t c).At-loop-x in
    let h = hangs (goal.at.returns-then-share_row t c).In-loop-x in
    let more = going (goal.at.returns-then-share_row t c).Joined-state-e in
    let s = c.if-share_row.ensures in
    finish _ _ ok _ _ _ _ (here at) c.in-New.is p.mark_rows.1 p.mark_rows.0 _ _ _ _ more
    (omega (arith, here at, c.loop-x.auto.state, c.match-state-e.auto.state, length-set c.args.state.now c.args.d Begun))
    (shared _ _ ok _ (column_of _ c.args.self.now.column_is) _ _ _ _ p.mark_rows.1 (record { line = c.loop-x.x; path = h.path; from = h.from; to = sym c.end-e.ensures.end })
    (more.rows.made _ s.0) s.1 (more.rows.blank _ (λ z. cc (more.since.held c.args.d (begun at)))) s.2)

pub loop-x-smaller : goal.loop-x-smaller
loop-x-smaller t c =
    let turn = (goal.at.loop-x-smaller t c).In-loop-x in
    omega (arith, line turn, c.before-x.ensures, (last turn).within)

pub loop-x-preserved : goal.loop-x-preserved
loop-x-preserved t c =
    let turn = (goal.at.loop-x-preserved t c).In-loop-x in
    let x = last turn in
    let p = c.requires in
    let at = (goal.at.loop-x-preserved t c).At-loop-x in
    let more = going (goal.at.loop-x-preserved t c).Joined-state-e in
    rw c.before-x.ensures (
      fewer _ _ c.args.self.now.sheet.accepted _ _ _ _ (here at) c.in-New.is p.mark_rows.1 p.mark_rows.0 _ more.since,
      going_still _ _ c.args.self.now.sheet.accepted _ _ _ _ _ more _ c.if-share_row.ensures,
      omega (arith, x.within, line turn),
      x.hangs,
    )

pub fill-requires-clause-fact : goal.fill-requires-clause-fact
fill-requires-clause-fact t c = (not_made (goal.at.fill-requires-clause-fact t c).At-loop-x, c.requires.mark_rows.1)

pub fill-requires-clause-by_index : goal.fill-requires-clause-by_index
fill-requires-clause-by_index t c = c.loop-x.invariant.1.rows.made

pub fill-requires-clause-blank : goal.fill-requires-clause-blank
fill-requires-clause-blank t c = c.loop-x.invariant.1.rows.blank c.args.d (not_made (goal.at.fill-requires-clause-blank t c).At-loop-x)

pub returns : goal.returns
returns t c =
    let p = c.requires in
    let at = (goal.at.returns t c).At-loop-x in
    finish _ _ c.args.self.now.sheet.accepted _ _ _ _ (here at) c.in-New.is p.mark_rows.1 p.mark_rows.0 _ _ _ _ c.loop-x.invariant.1
    (omega (arith, here at, c.loop-x.auto.state, length-set c.args.state.now c.args.d Begun)) c.fill.ensures
