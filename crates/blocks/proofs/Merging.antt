-- What the leads of blocks are, and what the merged rows say.
use mathlib.Core.Path.{◌≡◌, sym, ◌∙◌, subst}
use mathlib.Core.Logic.{◌⊎◌, inl, inr}
use mathlib.Core.List.{List}
use mathlib.Core.Bool.{Bool, true, ◌&&◌}
use Prim.Native.Nat.{ℕ}
use native.Mathlib.Omega.{arith}
use native.Mathlib.Decide.{ℕ_discrete}
use lib.ListN.{length, get_or}
use Rattle.order.specs.LabelLists.{◌∈◌}
use Rattle.order.specs.Blocks.{is_leader, leaders, block_needs}
use Rattle.order.proofs.Tests.{and_left, and_right, and_intro}
use Rattle.order.proofs.Alike.{same_test}
use Rattle.order.proofs.Closure.{Chain, step, then}
use Rattle.order.proofs.Blocks.{onto_needs, Tog, tog_refl, tog_sym, tog_trans, in_block_lem, leader_once, lead_of, block_needs_of, of_block_needs, block_same, leader_same}
use Rattle.marks.specs.Marks.{mark}
use Rattle.placing.specs.UnmetCounts.{needed}
use Rattle.blocks.specs.Found.{Led}
use Rattle.blocks.specs.Merged.{Mergeable, RowFrom, Joined, Following, ClosedRows, Merged}

-- ---- leads

module _ (R : ℕ → ℕ → Bool) (items lead : List ℕ) (led : Led R items lead) where
  pub led_item : (x : ℕ) → x ∈ items → get_or lead x 0 ∈ items
  led_item x m = (in_block_lem R items x (get_or lead x 0) (led x m).0).0

  pub led_tog : (x : ℕ) → x ∈ items → Tog R items (get_or lead x 0) x
  led_tog x m = tog_sym R items x (get_or lead x 0) (in_block_lem R items x (get_or lead x 0) (led x m).0).1

  -- the lead is the only leader in the block
  pub led_is : (b x : ℕ) → b ∈ items → is_leader R items b ≡ true → x ∈ items → Tog R items b x → get_or lead x 0 ≡ b
  led_is b x mb lb m t =
      leader_once R items (get_or lead x 0) b (led_item x m) mb (led x m).1 lb (tog_trans R items (get_or lead x 0) x b (led_tog x m) (tog_sym R items b x t))

  pub led_head : (x : ℕ) → x ∈ items → get_or lead (get_or lead x 0) 0 ≡ get_or lead x 0
  led_head x m = led_is (get_or lead x 0) (get_or lead x 0) (led_item x m) (led x m).1 (led_item x m) (tog_refl R items (get_or lead x 0))

-- needs that agree on the items have the same leads
pub led_same : (R S : ℕ → ℕ → Bool) (items lead : List ℕ) → ((p q : ℕ) → p ∈ items → q ∈ items → R p q ≡ S p q) → Led R items lead → Led S items lead
led_same R S items lead same led p m =
    let b = get_or lead p 0 in
    (subst (λ (l : List ℕ). b ∈ l) (block_same R S items same p m) (led p m).0, sym (leader_same R S items same b (led_item R items lead led p m)) ∙ (led p m).1)

pub mergeable_as : (items lead s s' : List ℕ) (w : ℕ) → length s' ≡ length s → Mergeable items lead s w → Mergeable items lead s' w
mergeable_as items lead s s' w e ok = record {
  rising = ok.rising;
  narrow = ok.narrow;
  below = ok.below;
  leading = ok.leading;
  rows = λ p m. omega (arith, ok.rows p m);
  item = ok.item;
  head = ok.head;
}

first_step : {m : ℕ → ℕ → Bool} {p q : ℕ} → Chain m p q → (c : ℕ) × (m p c ≡ true)
first_step {m} {p} {q} (step s) = (q, s)
first_step (then r s) = first_step r

-- ---- the merged rows

module _ (items lead s s₁ s₂ followers : List ℕ) (w : ℕ) (ok : Mergeable items lead s w)
    (j : Joined items lead s s₁ followers w) (c : ClosedRows items lead s₁ s₂ followers w) where
  others : (q p : ℕ) → (q ∈ items → ⊥) → mark s₂ w q p ≡ mark s w q p
  others q p n =
      c.others q p (λ m _. n m) ∙ same_test (mark s₁ w q p) (mark s w q p) (λ e. old ((j.row q p).0 e)) (λ e. (j.row q p).1 (inl e))
    where
      old : (mark s w q p ≡ true) ⊎ RowFrom items lead s w q p → mark s w q p ≡ true
      old (inl e) = e
      old (inr (x, m, e, _)) = absurd (n (subst (λ (v : ℕ). v ∈ items) e (ok.item x m)))

  module _ (mask : List ℕ) (led : Led (needed s mask w) items lead) where
    abbrev R : ℕ → ℕ → Bool
    R = needed s mask w

    -- a member of a block of several needs another, so the mask has it
    masked : (p q : ℕ) → Tog R items p q → mark mask w 0 p ≡ true → mark mask w 0 q ≡ true
    masked p q (inl e) h = subst (λ (v : ℕ). mark mask w 0 v ≡ true) e h
    masked p q (inr r) h =
        let f = first_step r.1 in
        let n = onto_needs R items q f.0 f.1 in
        and_right (mark s w f.0 q) (mark mask w 0 q) (and_right (mark mask w 0 f.0) (mark s w f.0 q && mark mask w 0 q) n)

    needed_intro : (t : List ℕ) (p q : ℕ) → mark mask w 0 q ≡ true → mark t w q p ≡ true → mark mask w 0 p ≡ true → needed t mask w p q ≡ true
    needed_intro t p q a e b = and_intro (mark mask w 0 q) (mark t w q p && mark mask w 0 p) a (and_intro (mark t w q p) (mark mask w 0 p) e b)

    needed_elim : (t : List ℕ) (p q : ℕ) → needed t mask w p q ≡ true → (mark mask w 0 q ≡ true) × (mark t w q p ≡ true) × (mark mask w 0 p ≡ true)
    needed_elim t p q e =
        let r = and_right (mark mask w 0 q) (mark t w q p && mark mask w 0 p) e in
        (and_left (mark mask w 0 q) (mark t w q p && mark mask w 0 p) e, and_left (mark t w q p) (mark mask w 0 p) r, and_right (mark t w q p) (mark mask w 0 p) r)

    -- ---- one block's row, before it is closed

    row_of : (b p : ℕ) → b ∈ items → mark s₁ w b p ≡ true → (x : ℕ) × (x ∈ items) × Tog R items b x × (mark s w x p ≡ true)
    row_of b p mb e = go ((j.row b p).0 e)
      where
        go : (mark s w b p ≡ true) ⊎ RowFrom items lead s w b p → (x : ℕ) × (x ∈ items) × Tog R items b x × (mark s w x p ≡ true)
        go (inl h) = (b, mb, tog_refl R items b, h)
        go (inr (x, m, z, h)) = (x, m, subst (λ (v : ℕ). Tog R items v x) z (led_tog R items lead led x m), h)

    module _ (b k : ℕ) (mb : b ∈ leaders R items) (mk : k ∈ leaders R items) where
      lb : (b ∈ items) × (is_leader R items b ≡ true)
      lb = lead_of R items b mb

      lk : (k ∈ items) × (is_leader R items k ≡ true)
      lk = lead_of R items k mk

      own : get_or lead b 0 ≡ b
      own = led_is R items lead led b b lb.0 lb.1 lb.0 (tog_refl R items b)

      -- a mark of k stands for one of k's block
      stands : (mark s₁ w b k ≡ true) ⊎ ((y : ℕ) × (mark s₁ w b y ≡ true) × (mark followers w 0 y ≡ true) × (get_or lead y 0 ≡ k))
          → (y : ℕ) × (y ∈ items) × Tog R items k y × (mark s₁ w b y ≡ true)
      stands (inl h) = (k, lk.0, tog_refl R items k, h)
      stands (inr (y, h, f, e)) =
          let m = ((j.follow y).0 f).0 in
          (y, m, subst (λ (v : ℕ). Tog R items v y) e (led_tog R items lead led y m), h)

      sound : needed s₂ mask w k b ≡ true → block_needs R items k b ≡ true
      sound e =
          let n = needed_elim s₂ k b e in
          let o = (c.row b k lb.0 own).0 n.1 in
          let y = stands o.1 in
          let x = row_of b y.0 lb.0 y.3 in
          block_needs_of R items k b y.0 x.0 o.0 y.1 x.1 y.2 x.2
          (needed_intro s y.0 x.0 (masked b x.0 x.2 n.0) x.3 (masked k y.0 y.2 n.2))

      complete : block_needs R items k b ≡ true → needed s₂ mask w k b ≡ true
      complete e =
          needed_intro s₂ k b (masked q b (tog_sym R items b q tq) n.0) ((c.row b k lb.0 own).1 (o.0, closed (ℕ_discrete p k)))
          (masked p k (tog_sym R items k p tp) n.2)
        where
          o : (k ≡ b → ⊥) × ((p : ℕ) × (q : ℕ) × (p ∈ items) × (q ∈ items) × Tog R items k p × Tog R items b q × (R p q ≡ true))
          o = of_block_needs R items k b e

          p : ℕ
          p = o.1.0

          q : ℕ
          q = o.1.1

          tp : Tog R items k p
          tp = o.1.4

          tq : Tog R items b q
          tq = o.1.5

          n : (mark mask w 0 q ≡ true) × (mark s w q p ≡ true) × (mark mask w 0 p ≡ true)
          n = needed_elim s p q o.1.6

          lead_p : get_or lead p 0 ≡ k
          lead_p = led_is R items lead led k p lk.0 lk.1 o.1.2 tp

          h : mark s₁ w b p ≡ true
          h = (j.row b p).1 (inr (q, o.1.3, led_is R items lead led b q lb.0 lb.1 o.1.3 tq, n.1))

          closed : Dec (p ≡ k) → (mark s₁ w b k ≡ true) ⊎ ((y : ℕ) × (mark s₁ w b y ≡ true) × (mark followers w 0 y ≡ true) × (get_or lead y 0 ≡ k))
          closed (yes z) = inl (subst (λ (v : ℕ). mark s₁ w b v ≡ true) z h)
          closed (no z) = inr (p, h, (j.follow p).1 (o.1.2, λ v. z (sym v ∙ lead_p)), lead_p)

      needs_merged : needed s₂ mask w k b ≡ block_needs R items k b
      needs_merged = same_test (needed s₂ mask w k b) (block_needs R items k b) sound complete

  pub merged : Merged items lead s s₂ followers w
  merged = record { needs = needs_merged; others = others; follow = j.follow }

-- followers are items, so their leads have marks
pub following_of : (items lead s s' followers : List ℕ) (w : ℕ) → Mergeable items lead s w → Joined items lead s s' followers w → Following lead followers w
following_of items lead s s' followers w ok j y f = let m = ((j.follow y).0 f).0 in (ok.leading y m, ok.below (get_or lead y 0) (ok.item y m))
