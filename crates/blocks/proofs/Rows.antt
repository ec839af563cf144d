-- The turns of the loops that merge rows: rows added to those of their leads, then the rows of leaders closed.
use mathlib.Core.Path.{◌≡◌, sym, ap, ◌∙◌, subst}
use mathlib.Core.Logic.{◌⊎◌, inl, inr, ◌↔◌}
use mathlib.Core.List.{List}
use mathlib.Core.Bool.{true}
use Prim.Native.Nat.{ℕ, ◌+◌, ◌*◌, ◌≤◌, ◌<◌}
use native.Mathlib.Omega.{arith}
use native.Mathlib.Decide.{ℕ_discrete}
use lib.ListN.{length, get_or, take, drop, take-append-drop}
use borrow.Author.Tests.{eq-eqb}
use Rattle.order.specs.LabelLists.{one, count, ◌∈◌}
use Rattle.order.proofs.Lists.{count_append}
use Rattle.marks.specs.Marks.{mark, Added}
use Rattle.marks.proofs.Squares.{mark_in}
use Rattle.placing.proofs.Lists.{in_take, in_more, count_more, count_take_le}
use Rattle.blocks.specs.Merged.{RowFrom, Joined, LeadOf, Closed, ClosedRow, ClosedRows}

in_later : (x : ℕ) (l : List ℕ) (i : ℕ) → x ∈ take i l → x ∈ take (i + 1) l
in_later x l i m = omega (arith, count_take_le x l i (i + 1) (omega arith))

count_part : (x : ℕ) (l : List ℕ) (i : ℕ) → count x (take i l) ≤ count x l
count_part x l i = omega (arith, count_append x (take i l) (drop i l), ap (count x) (take-append-drop i l))

in_last : (x : ℕ) (l : List ℕ) (i : ℕ) → i < length l → x ≡ get_or l i 0 → x ∈ take (i + 1) l
in_last x l i h z = subst (λ (y : ℕ). y ∈ take (i + 1) l) (sym z) (in_take l (i + 1) i (omega arith) (omega arith))

-- what a row gains, it gains beside what it has
added_kept : (P : ℕ → Type 0) (s s' : List ℕ) (w p : ℕ) → Added P s s' w p → (a q : ℕ) → mark s w a q ≡ true → mark s' w a q ≡ true
added_kept P s s' w p add a q m = go (ℕ_discrete a p)
  where
    go : Dec (a ≡ p) → mark s' w a q ≡ true
    go (yes z) = rw z (add.kept q (rw z at m))
    go (no z) = add.others a q z ∙ m

-- ---- rows added to those of their leads

module _ (items lead s₀ s followers : List ℕ) (w i x : ℕ) (hi : i < length items) (z : x ≡ get_or items i 0) where
  module _ (j : Joined (take i items) lead s₀ s followers w) where
    later : (b p : ℕ) → (mark s₀ w b p ≡ true) ⊎ RowFrom (take i items) lead s₀ w b p → (mark s₀ w b p ≡ true) ⊎ RowFrom (take (i + 1) items) lead s₀ w b p
    later b p (inl e) = inl e
    later b p (inr (y, m, e, h)) = inr (y, in_later y items i m, e, h)

    still : (y : ℕ) → mark followers w 0 y ≡ true → (y ∈ take (i + 1) items) × (get_or lead y 0 ≡ y → ⊥)
    still y m = let o = (j.follow y).0 m in (in_later y items i o.0, o.1)

    -- one that leads itself is passed over
    pub joined_skip : get_or lead x 0 ≡ x → Joined (take (i + 1) items) lead s₀ s followers w
    joined_skip own = record { follow = λ y. (still y, back y); row = λ b p. (λ m. later b p ((j.row b p).0 m), row b p) }
      where
        back : (y : ℕ) → (y ∈ take (i + 1) items) × (get_or lead y 0 ≡ y → ⊥) → mark followers w 0 y ≡ true
        back y (m, d) = go (in_more y items i hi m)
          where
            go : (y ∈ take i items) ⊎ (y ≡ get_or items i 0) → mark followers w 0 y ≡ true
            go (inl k) = (j.follow y).1 (k, d)
            go (inr e) = absurd (d (subst (λ (v : ℕ). get_or lead v 0 ≡ v) (z ∙ sym e) own))

        row : (b p : ℕ) → (mark s₀ w b p ≡ true) ⊎ RowFrom (take (i + 1) items) lead s₀ w b p → mark s w b p ≡ true
        row b p (inl e) = (j.row b p).1 (inl e)
        row b p (inr (y, m, e, h)) = go (in_more y items i hi m)
          where
            go : (y ∈ take i items) ⊎ (y ≡ get_or items i 0) → mark s w b p ≡ true
            go (inl k) = (j.row b p).1 (inr (y, k, e, h))
            go (inr k) =
                let q : y ≡ b = subst (λ (v : ℕ). v ≡ get_or lead v 0) (z ∙ sym k) (sym own) ∙ e in
                (j.row b p).1 (inl (subst (λ (v : ℕ). mark s₀ w v p ≡ true) q h))

    module _ (head : (y : ℕ) → y ∈ items → get_or lead (get_or lead y 0) 0 ≡ get_or lead y 0) (d : get_or lead x 0 ≡ x → ⊥) (hx : x < 64 * w) where
      -- the row of a follower is as it was
      unwritten : (p : ℕ) → mark s w x p ≡ true → mark s₀ w x p ≡ true
      unwritten p m = go ((j.row x p).0 m)
        where
          go : (mark s₀ w x p ≡ true) ⊎ RowFrom (take i items) lead s₀ w x p → mark s₀ w x p ≡ true
          go (inl e) = e
          go (inr (y, k, e, h)) = absurd (d (subst (λ (v : ℕ). get_or lead v 0 ≡ v) e (head y (omega (arith, count_part y items i)))))

      turn : (followers' s' : List ℕ) → Added (λ (b : ℕ). b ≡ x) followers followers' w 0 → Added (λ (q : ℕ). mark s w x q ≡ true) s s' w (get_or lead x 0)
          → Joined (take (i + 1) items) lead s₀ s' followers' w
      turn followers' s' put add = record {
        follow = λ y. (λ m. there y (put.only y m), λ k. back y k.1 (in_more y items i hi k.0));
        row = λ b p. (λ m. gained b p m (ℕ_discrete b (get_or lead x 0)), row b p);
      }
        where
          there : (y : ℕ) → (mark followers w 0 y ≡ true) ⊎ (y ≡ x) → (y ∈ take (i + 1) items) × (get_or lead y 0 ≡ y → ⊥)
          there y (inl m) = still y m
          there y (inr e) = (in_last y items i hi (e ∙ z), λ k. d (subst (λ (v : ℕ). get_or lead v 0 ≡ v) e k))

          back : (y : ℕ) → (get_or lead y 0 ≡ y → ⊥) → (y ∈ take i items) ⊎ (y ≡ get_or items i 0) → mark followers' w 0 y ≡ true
          back y n (inl k) = put.kept y ((j.follow y).1 (k, n))
          back y n (inr k) = let e : y ≡ x = k ∙ sym z in put.new y (omega arith) e

          gained : (b p : ℕ) → mark s' w b p ≡ true → Dec (b ≡ get_or lead x 0) → (mark s₀ w b p ≡ true) ⊎ RowFrom (take (i + 1) items) lead s₀ w b p
          gained b p m (no n) = later b p ((j.row b p).0 (sym (add.others b p n) ∙ m))
          gained b p m (yes e) = go (add.only p (subst (λ (v : ℕ). mark s' w v p ≡ true) e m))
            where
              go : (mark s w (get_or lead x 0) p ≡ true) ⊎ (mark s w x p ≡ true) → (mark s₀ w b p ≡ true) ⊎ RowFrom (take (i + 1) items) lead s₀ w b p
              go (inl h) = later b p ((j.row b p).0 (subst (λ (v : ℕ). mark s w v p ≡ true) (sym e) h))
              go (inr h) = inr (x, in_last x items i hi z, sym e, unwritten p h)

          kept : (b p : ℕ) → mark s w b p ≡ true → mark s' w b p ≡ true
          kept = added_kept (λ (q : ℕ). mark s w x q ≡ true) s s' w (get_or lead x 0) add

          row : (b p : ℕ) → (mark s₀ w b p ≡ true) ⊎ RowFrom (take (i + 1) items) lead s₀ w b p → mark s' w b p ≡ true
          row b p (inl e) = kept b p ((j.row b p).1 (inl e))
          row b p (inr (y, m, e, h)) = go (in_more y items i hi m)
            where
              go : (y ∈ take i items) ⊎ (y ≡ get_or items i 0) → mark s' w b p ≡ true
              go (inl k) = kept b p ((j.row b p).1 (inr (y, k, e, h)))
              go (inr k) =
                  let q : y ≡ x = k ∙ sym z in
                  let c : get_or lead x 0 ≡ b = ap (λ (v : ℕ). get_or lead v 0) (sym q) ∙ e in
                  let o : mark s w x p ≡ true = (j.row x p).1 (inl (subst (λ (v : ℕ). mark s₀ w v p ≡ true) q h)) in
                  subst (λ (v : ℕ). mark s' w v p ≡ true) c (add.new p (mark_in s w x p o) o)

      pub joined_turn : (b : ℕ) → b ≡ get_or lead x 0 → (followers' s' : List ℕ) → Added (λ (b : ℕ). b ≡ x) followers followers' w 0
          → Added (λ (q : ℕ). mark s w x q ≡ true) s s' w b → Joined (take (i + 1) items) lead s₀ s' followers' w
      joined_turn b e followers' s' put add = turn followers' s' put (subst (λ (v : ℕ). Added (λ (q : ℕ). mark s w x q ≡ true) s s' w v) e add)

-- ---- the leads of those listed are put into a row

pub leads_turn : (list lead s₀ s s' : List ℕ) (w x j y b : ℕ) → j < length list → y ≡ get_or list j 0 → b ≡ get_or lead y 0
    → Added (LeadOf (take j list) lead) s₀ s w x → Added (λ (q : ℕ). q ≡ b) s s' w x → Added (LeadOf (take (j + 1) list) lead) s₀ s' w x
leads_turn list lead s₀ s s' w x j y b hj z hb old add = record {
  others = λ a q d. add.others a q d ∙ old.others a q d;
  kept = λ q e. add.kept q (old.kept q e);
  new = new;
  only = λ q e. go q (add.only q e);
}
  where
    new : (q : ℕ) → q < 64 * w → LeadOf (take (j + 1) list) lead q → mark s' w x q ≡ true
    new q h (v, m, e) = at (in_more v list j hj m)
      where
        at : (v ∈ take j list) ⊎ (v ≡ get_or list j 0) → mark s' w x q ≡ true
        at (inl k) = add.kept q (old.new q h (v, k, e))
        at (inr k) = add.new q h (sym e ∙ ap (λ (u : ℕ). get_or lead u 0) (k ∙ sym z) ∙ sym hb)

    go : (q : ℕ) → (mark s w x q ≡ true) ⊎ (q ≡ b) → (mark s₀ w x q ≡ true) ⊎ LeadOf (take (j + 1) list) lead q
    go q (inr e) = inr (y, in_last y list j hj z, sym hb ∙ sym e)
    go q (inl e) = at (old.only q e)
      where
        at : (mark s₀ w x q ≡ true) ⊎ LeadOf (take j list) lead q → (mark s₀ w x q ≡ true) ⊎ LeadOf (take (j + 1) list) lead q
        at (inl h) = inl h
        at (inr (v, m, h)) = inr (v, in_later v list j m, h)

-- ---- the rows of leaders are closed

closed_as : (lead s t followers : List ℕ) (w x q : ℕ) → ((p : ℕ) → mark s w x p ≡ mark t w x p) → Closed lead s followers w x q → Closed lead t followers w x q
closed_as lead s t followers w x q e (d, inl h) = (d, inl (sym (e q) ∙ h))
closed_as lead s t followers w x q e (d, inr (y, a, b, h)) = (d, inr (y, sym (e y) ∙ a, b, h))

module _ (items lead s₀ s followers : List ℕ) (w i x : ℕ) (hi : i < length items) (z : x ≡ get_or items i 0) (c : ClosedRows (take i items) lead s₀ s followers w) where
  pub closed_skip : (get_or lead x 0 ≡ x → ⊥) → ClosedRows (take (i + 1) items) lead s₀ s followers w
  closed_skip d = record { row = λ y q m e. row y q e (in_more y items i hi m); others = λ a q n. c.others a q (λ m. n (in_later a items i m)) }
    where
      row : (y q : ℕ) → get_or lead y 0 ≡ y → (y ∈ take i items) ⊎ (y ≡ get_or items i 0) → (mark s w y q ≡ true) ↔ Closed lead s₀ followers w y q
      row y q e (inl k) = c.row y q k e
      row y q e (inr k) = absurd (d (subst (λ (v : ℕ). get_or lead v 0 ≡ v) (k ∙ sym z) e))

  pub closed_turn : count x items ≤ 1 → get_or lead x 0 ≡ x → (s' : List ℕ) → ClosedRow lead s s' followers w x
      → ClosedRows (take (i + 1) items) lead s₀ s' followers w
  closed_turn once own s' r = record {
    row = λ y q m e. row y q e (in_more y items i hi m) (ℕ_discrete y x);
    others = λ a q n. r.others a q (λ e. n (in_last a items i hi (e ∙ z)) (subst (λ (v : ℕ). get_or lead v 0 ≡ v) (sym e) own)) ∙ c.others a q (λ m. n (in_later a items i m));
  }
    where
      -- it is not among those before, so its row is as it was
      same : (p : ℕ) → mark s w x p ≡ mark s₀ w x p
      same p = c.others x p (λ m _. omega (arith, once, count_part x items (i + 1), count_more x items i hi, ap one (eq-eqb x (get_or items i 0) z)))

      here : (q : ℕ) → (mark s' w x q ≡ true) ↔ Closed lead s₀ followers w x q
      here q = (λ e. closed_as lead s s₀ followers w x q same ((r.row q).0 e), λ k. (r.row q).1 (closed_as lead s₀ s followers w x q (λ p. sym (same p)) k))

      row : (y q : ℕ) → get_or lead y 0 ≡ y → (y ∈ take i items) ⊎ (y ≡ get_or items i 0) → Dec (y ≡ x) → (mark s' w y q ≡ true) ↔ Closed lead s₀ followers w y q
      row y q e k (yes n) = rw n (here q)
      row y q e (inl k) (no n) = rw (r.others y q n) (c.row y q k e)
      row y q e (inr k) (no n) = absurd (n (k ∙ sym z))
