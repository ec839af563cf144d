use mathlib.Core.Path.{◌≡◌, ◌∙◌, subst}
use mathlib.Core.Logic.{inr}
use Prim.Native.Nat.{ℕ}
use native.Mathlib.Omega.{arith}
use lib.ListN.{take}
use Rattle.marks.specs.Marks.{mark}
use Rattle.reach.specs.MarkRows.{width}
use Rattle.reach.specs.Turns.{Spread}
use Rattle.std.proofs.Common.{rules}
use Rattle.reach.proofs.Links.{column_of, body_label}
use Rattle.reach.proofs.Spread.{popped, grown_less, rows_kept, filled}
use Rattle.reach.proofs.LinkChains.fill.Goals as goal
use Rattle.reach.proofs.LinkChains.fill.Goals.{At-loop-top}

-- in the loop, other rows are as they were
module _ (c : At-loop-top) where
  same : (a q : ℕ) →
      (a ≡ c.args.d → ⊥) → mark c.loop-top.square (width c.args.self.now.sheet.n) a q ≡ mark c.args.square.now (width c.args.self.now.sheet.n) a q
  same a q z = c.loop-top.invariant.3 a q z ∙ c.grow-top.ensures.0.others a q z

pub grow-top-requires-in-loop-top : goal.grow-top-requires-in-loop-top
grow-top-requires-in-loop-top c =
    let p = c.requires in
    let ok = c.args.self.now.sheet.accepted in
    let col = column_of _ c.args.self.now.column_is in
    let low = c.loop-top.invariant.0 in
    -- what is at the top of the stack
    let e = popped _ _ ok _ col _ _ c.loop-top.stack c.loop-top.top _ c.from-e.ensures c.loop-top-test.true (omega (arith, low, p.room.heights, c.loop-top.auto.stack, c.grow-top.auto.stack))
    c.loop-top.invariant.1 in record {
      room = search rules;
      d_le_n = ((body_label _ _ ok c.args.d p.fact.1).1, p.fact.0);
      linked = (e.1, inr e.2);
      by_index = rows_kept _ _ ok _ col c.args.d c.args.state.now c.args.square.now c.loop-top.square p.fact.0 p.by_index
          (same (goal.at.grow-top-requires-in-loop-top c).At-loop-top);
      spread = (e.0, omega (arith, low));
    }

pub loop-top-smaller : goal.loop-top-smaller
loop-top-smaller c =
    let less = grown_less _ _ c.args.self.now.sheet.accepted _ (column_of _ c.args.self.now.column_is) _ _ _ _ _ _ _ c.grow-top-in-loop-top.ensures.0 in
    omega (arith, c.loop-top-test.true)

pub loop-top-preserved : goal.loop-top-preserved
loop-top-preserved c =
    let grown = c.grow-top-in-loop-top.ensures in (
      grown.1,
      grown.0.spread,
      λ z k. grown.0.kept z (c.loop-top.invariant.2 z k),
      λ a q z. grown.0.others a q z ∙ c.loop-top.invariant.3 a q z,
    )

pub returns : goal.returns
returns c =
    let z : c.loop-top.top ≡ 0 = omega (arith, c.loop-top-test.false) in
    filled _ _ c.args.self.now.sheet.accepted _ (column_of _ c.args.self.now.column_is) _ _ _
    (subst (λ (k : ℕ). Spread c.args.self.now.sheet.cells.now c.args.self.now.column c.args.d 0 (mark c.loop-top.square (width c.args.self.now.sheet.n) c.args.d)
    (take k c.loop-top.stack)) z c.loop-top.invariant.1) c.loop-top.invariant.2 (same (goal.at.returns c).At-loop-top)
