-- Rows 16 to 18 of an accepted table t of n labels and an order list: what it means that they find nothing.
use mathlib.Core.Path.{◌≡◌, refl}
use mathlib.Core.Logic.{◌↔◌}
use mathlib.Core.List.{List}
use Prim.Native.Nat.{ℕ, zero, suc}
use native.Mathlib.Omega.{arith}
use lib.IntN.{ℤ}
use Rattle.cells.specs.Accepted.{Accepted}
use Rattle.refusals.specs.declared.Row.{Row}
use Rattle.refusals.specs.Rows.{cycle_row, listed_row, early_row}
use Rattle.refusals.specs.Refusal.{or_else, reply_of, found_at, refusal_of, Fine}
use Rattle.refusals.proofs.OrElse.{both_fine}
use Rattle.order.specs.Order.{NoCycle, Proper, plan, order_of, place16}
use Rattle.order.specs.Following.{ProperList, place17, place18}
use Rattle.order.specs.Rows16to18.{cycle_bad, order_bad}
use Rattle.order.proofs.Proper.{proper_no_cycle}
use Rattle.order.proofs.Planned.{place16_exactly, plan_proper}
use Rattle.order.proofs.Following.{follow_exactly}

-- ---- a row told by its place

none_at : (r : Row) (k : ℕ) → found_at r k ≡ Fine → k ≡ 0
none_at r zero e = refl
none_at r (suc k) e = let z : ◌≡◌ {A = ℕ} 0 1 = cc in absurd (omega arith)

at_none : (r : Row) (k : ℕ) → k ≡ 0 → found_at r k ≡ Fine
at_none r k e = rw e

-- a reply of number 0 is to rows that find nothing
no_number : (a b c k : ℕ) → refusal_of (reply_of (or_else (found_at cycle_row a) (or_else (found_at listed_row b) (found_at early_row c))) k) ≡ 0 → (a ≡ 0) × (b ≡ 0) × (c ≡ 0)
no_number zero zero zero k e = (refl, refl, refl)
no_number zero zero (suc c) k e = absurd (omega arith)
no_number zero (suc b) c k e = absurd (omega arith)
no_number (suc a) b c k e = absurd (omega arith)

module _ (t : List ℤ) (n : ℕ) (ok : Accepted t n) where
  pub cycle_free : cycle_bad t n ≡ Fine → NoCycle t
  unfolding cycle_bad
  cycle_free e = (place16_exactly t n ok 0).0 (none_at cycle_row (place16 t n) e)

  free_cycle : NoCycle t → cycle_bad t n ≡ Fine
  unfolding cycle_bad
  free_cycle h = at_none cycle_row (place16 t n) ((place16_exactly t n ok 0).1 h)

  pub planned_proper : cycle_bad t n ≡ Fine → Proper t (order_of (plan t n))
  planned_proper e = plan_proper t n ok (cycle_free e)

  module _ (cells : List ℤ) where
    pub order_proper : order_bad t n cells ≡ Fine → ProperList t cells
    unfolding order_bad
    order_proper e =
        let b = both_fine (found_at listed_row (place17 t n cells)) (found_at early_row (place18 t n cells)) e in
        (follow_exactly t n ok cells).0 (none_at listed_row (place17 t n cells) b.0, none_at early_row (place18 t n cells) b.1)

    pub proper_rows : ProperList t cells → (cycle_bad t n ≡ Fine) × (order_bad t n cells ≡ Fine)
    unfolding order_bad
    proper_rows p =
        let f = (follow_exactly t n ok cells).1 p in
        (free_cycle (proper_no_cycle p.proper), rw (f.0, f.1))

    -- Follow accepts exactly the proper orders
    pub accepts_exactly : (k : ℕ) → (refusal_of (reply_of (or_else (cycle_bad t n) (order_bad t n cells)) k) ≡ 0) ↔ ProperList t cells
    unfolding cycle_bad order_bad
    accepts_exactly k =
        (λ e. let z = no_number (place16 t n) (place17 t n cells) (place18 t n cells) k e in (follow_exactly t n ok cells).0 (z.1, z.2), λ p. let f = proper_rows p in rw (f.0, f.1))
