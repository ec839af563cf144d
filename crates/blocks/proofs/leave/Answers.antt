use mathlib.Core.Path.{◌≡◌, ◌∙◌, sym, subst}
use mathlib.Core.Bool.{true}
use Prim.Native.Nat.{ℕ, ◌+◌, ◌-◌, ◌<◌}
use native.Mathlib.Omega.{arith}
use lib.ListN.{length, get_or, set}
use Rattle.marks.specs.Marks.{mark}
use Rattle.marks.proofs.Squares.{mark_in}
use Rattle.blocks.specs.Search.{HasLeft}
use Rattle.blocks.proofs.Parts.{still, left_turn, part_at}
use Rattle.blocks.proofs.leave.Goals as goal
use Rattle.blocks.proofs.leave.Goals.{After-from-x}

module _ (c : After-from-x) where
  here : (c.from-x.result ≡ get_or c.args.stack.now (c.args.s + c.loop-x.x-index) 0) × (c.args.s + c.loop-x.x-index < c.args.n)
  here =
      let part = part_at c.args.stack.now c.args.s (c.args.n - c.args.s) c.loop-x.x-index c.loop-x-test.true in
      (c.from-x.ensures ∙ part.0, omega (arith, part.1))

  -- it was on the stack at the start, and has a lead
  own : (mark c.args.stacked.now c.args.w 0 c.from-x.result ≡ true) × (c.from-x.result < length c.args.lead.now)
  own =
      subst (λ (x : ℕ). (mark c.args.stacked.now c.args.w 0 x ≡ true) × (x < length c.args.lead.now)) (sym here.0)
      (c.requires.by_index (c.args.s + c.loop-x.x-index) (omega arith) here.1)

  once : (k : ℕ) → k < c.args.s + c.loop-x.x-index → get_or c.args.stack.now k 0 ≡ get_or c.args.stack.now (c.args.s + c.loop-x.x-index) 0 → ⊥
  once k h = c.requires.by_index_2 k (c.args.s + c.loop-x.x-index) h here.1

pub drop_mark-requires-clause-in_square : goal.drop_mark-requires-clause-in_square
drop_mark-requires-clause-in_square c = (mark_in _ _ _ _ (own (goal.at.drop_mark-requires-clause-in_square c).After-from-x).0, omega (arith, c.requires.s_le_n))

pub drop_mark-requires-clause-q_value : goal.drop_mark-requires-clause-q_value
drop_mark-requires-clause-q_value c =
    let turn = (goal.at.drop_mark-requires-clause-q_value c).After-from-x in
    still _ _ _ _ _ _ _ _ _ _ c.loop-x.invariant (omega arith) (here turn).0 (once turn) ∙ (own turn).0

pub bounds-lead-x : goal.bounds-lead-x
bounds-lead-x c = omega (arith, (own (goal.at.bounds-lead-x c).After-from-x).1)

pub loop-x-preserved : goal.loop-x-preserved
loop-x-preserved c =
    let turn = (goal.at.loop-x-preserved c).After-from-x in
    let room : c.from-x.result < length c.loop-x.lead = omega (arith, (own turn).1) in
    let e : c.args.s + c.loop-x.x-index + 1 ≡ c.args.s + (c.loop-x.x-index + 1) = omega arith in
    subst (λ (k : ℕ). HasLeft c.args.stack.now c.args.stacked.now c.drop_mark.new.s c.args.lead.now (set c.loop-x.lead c.from-x.result c.args.least) c.args.w c.args.s k c.args.least) e
    (left_turn _ _ _ _ _ _ _ _ _ _ c.loop-x.invariant (omega arith) (here turn).0 (once turn) _ room c.drop_mark.ensures)
