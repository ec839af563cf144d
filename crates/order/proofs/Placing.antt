-- The rule of placing, for the members of a Group and for the mixed list alike. What is placed are items (`placed_sub`), none before one
-- that it needs (`placed_late`); all of them where it is not stuck (`placed_all`); and it is not stuck where each item has a rank and needs
-- items of a lower rank alone (`not_stuck`).
use mathlib.Core.Path.{◌≡◌, refl, sym, ap}
use mathlib.Core.Logic.{◌⊎◌, inl, inr}
use mathlib.Core.List.{List, [], ◌∷◌, ◌++◌}
use mathlib.Core.Bool.{Bool, true, false, not, ◌&&◌}
use mathlib.Core.Option.{Option, none, some}
use Prim.Native.Nat.{ℕ, zero, suc, ◌+◌, ◌≤◌, ◌<◌}
use native.Mathlib.Omega.{arith}
use lib.Dec.{eqb}
use lib.ListN.{length, length-append}
use borrow.Author.Tests.{eqb-true, eqb-false, eq-eqb, not-true, not-false}
use Rattle.order.specs.LabelLists.{count, ◌∈◌, mem, any}
use Rattle.order.specs.Placing.{waits, next, rounds, placed, stuck}
use Rattle.order.proofs.Tests.{and_left, and_right, and_not, not_so}
use Rattle.order.proofs.Lists.{zero_or_in, of_mem, of_not_mem, mem_of, length_mono, count_same, count_there, count_append, count_here, in_here, in_there, in_left, in_single}
use Rattle.order.proofs.Lists.{in_append, first_some, first_none, first_refute, any_true, any_none}

-- No label of the list needs itself or a later one.
abbrev pub Late : (ℕ → ℕ → Bool) → List ℕ → Type 0
Late R [] = Unit {0}
Late R (p ∷ l) = ((q : ℕ) → q ∈ p ∷ l → R p q ≡ false) × Late R l

module _ (R : ℕ → ℕ → Bool) where
  pub late_tail : (a b : List ℕ) → Late R (a ++ b) → Late R b
  late_tail [] b h = h
  late_tail (x ∷ a) b h = late_tail a b h.1

  pub late_append : (a b : List ℕ) → Late R a → Late R b → ((x y : ℕ) → x ∈ a → y ∈ b → R x y ≡ false) → Late R (a ++ b)
  late_append [] b ha hb h = hb
  late_append (p ∷ a) b ha hb h = (
    λ q m. case q (in_append q (p ∷ a) b m),
    late_append a b ha.1 hb (λ x y mx my. h x y (in_there x p a mx) my),
  )
    where
      case : (q : ℕ) → (q ∈ p ∷ a) ⊎ (q ∈ b) → R p q ≡ false
      case q (inl m) = ha.0 q m
      case q (inr m) = h p q (in_here p a) m

-- ---- the rule of placing

-- What holds of those placed so far: they are items, no more often than there; with each stand the items that it needs; and in order.
record Placed (R : ℕ → ℕ → Bool) (items done : List ℕ) : Type 0 where
  of : (x : ℕ) → count x done ≤ count x items
  with_needed : (x q : ℕ) → x ∈ done → q ∈ items → R x q ≡ true → q ∈ done
  late : Late R done

module _ (R : ℕ → ℕ → Bool) (items : List ℕ) where
  -- what `next` gives is an item, is not placed, and needs only what is placed
  next_some : (done : List ℕ) (p : ℕ) → next R items done ≡ some p
      → (p ∈ items) × (count p done ≡ 0) × ((q : ℕ) → q ∈ items → R p q ≡ true → q ∈ done)
  next_some done p e =
      let w = first_some (λ p. not (mem p done) && not (waits R items done p)) items p e in
      let out = not-true (mem p done) (and_left (not (mem p done)) (not (waits R items done p)) w.1) in
      let ready = not-true (waits R items done p) (and_right (not (mem p done)) (not (waits R items done p)) w.1) in (
        w.0,
        of_not_mem p done out,
        λ q m r. of_mem q done (and_not (R p q) (mem q done) r (any_none (λ q. R p q && not (mem q done)) items ready q m)),
      )

  -- where it gives none, an item that is not placed needs another such
  next_none : (done : List ℕ) → next R items done ≡ none → (p : ℕ) → p ∈ items → mem p done ≡ false
      → (q : ℕ) × (q ∈ items) × (mem q done ≡ false) × (R p q ≡ true)
  next_none done e p m out =
      let w = first_none (λ p. not (mem p done) && not (waits R items done p)) items e p m in
      let h = any_true (λ q. R p q && not (mem q done)) items (blocked (mem p done) (waits R items done p) out w) in
      (h.0, h.1, not-true (mem h.0 done) (and_right (R p h.0) (not (mem h.0 done)) h.2), and_left (R p h.0) (not (mem h.0 done)) h.2)
    where
      blocked : (a b : Bool) → a ≡ false → (not a && not b) ≡ false → b ≡ true
      blocked a true e₁ e₂ = refl
      blocked true false e₁ e₂ = sym e₁
      blocked false false e₁ e₂ = sym e₂

  step_placed : (done : List ℕ) (p : ℕ) → next R items done ≡ some p → Placed R items done → Placed R items (done ++ p ∷ [])
  step_placed done p e h = record { of = of; with_needed = λ x q m. needed x q (in_append x done (p ∷ []) m); late = late }
    where
      w : (p ∈ items) × (count p done ≡ 0) × ((q : ℕ) → q ∈ items → R p q ≡ true → q ∈ done)
      w = next_some done p e

      of : (x : ℕ) → count x (done ++ p ∷ []) ≤ count x items
      of x = go (eqb x p) refl
        where
          go : (t : Bool) → eqb x p ≡ t → count x (done ++ p ∷ []) ≤ count x items
          go true z =
              let q : x ≡ p = eqb-true x p z in
              rw q (omega (arith, count_append p done (p ∷ []), count_here p [], w.0, w.1))
          go false z = omega (arith, count_append x done (p ∷ []), count_there x p [] (eqb-false x p z), h.of x)

      needed : (x q : ℕ) → (x ∈ done) ⊎ (x ∈ p ∷ []) → q ∈ items → R x q ≡ true → q ∈ done ++ p ∷ []
      needed x q (inl m) i r = in_left q done (p ∷ []) (h.with_needed x q m i r)
      needed x q (inr m) i r = in_left q done (p ∷ []) (w.2 q i (rw (in_single x p m) at r))

      late : Late R (done ++ p ∷ [])
      late = late_append R done (p ∷ []) h.late (λ q m. rw (in_single q p m) self, tt)
          (λ x y mx my. rw (in_single y p my) (not_so (R x p) (λ t. omega (arith, h.with_needed x p mx w.0 t, w.1))))
        where
          self : R p p ≡ false
          self = not_so (R p p) (λ t. omega (arith, w.2 p w.0 t, w.1))

  rounds_placed : (k : ℕ) (done : List ℕ) → Placed R items done → Placed R items (rounds R items k done)
  rounds_placed zero done h = h
  rounds_placed (suc k) done h = go (next R items done) refl (λ p. rounds_placed k (done ++ p ∷ []))
    where
      go : (o : Option ℕ) → next R items done ≡ o → ((p : ℕ) → Placed R items (done ++ p ∷ []) → Placed R items (rounds R items k (done ++ p ∷ [])))
          → Placed R items (rounds R items (suc k) done)
      go none e r = rw e h
      go (some p) e r = rw e (r p (step_placed done p e h))

  none_placed : Placed R items []
  none_placed = record { of = λ x. omega arith; with_needed = λ x q m. absurd (omega arith); late = tt }

  placed_placed : Placed R items (placed R items)
  placed_placed = rounds_placed (length items) [] none_placed

  rounds_done : (k : ℕ) (done : List ℕ) → length done + k ≡ length items → Placed R items done → next R items (rounds R items k done) ≡ none
  rounds_done zero done h p = first_refute (λ p. not (mem p done) && not (waits R items done p)) items (λ x m. rw (mem_of x done (omega (arith, count_same done items p.of (omega arith) x))))
  rounds_done (suc k) done h p = go (next R items done) refl (λ x. rounds_done k (done ++ x ∷ []))
    where
      go : (o : Option ℕ) → next R items done ≡ o → ((x : ℕ) → length (done ++ x ∷ []) + k ≡ length items → Placed R items (done ++ x ∷ [])
          → next R items (rounds R items k (done ++ x ∷ [])) ≡ none)
          → next R items (rounds R items (suc k) done) ≡ none
      go none e r = rw e e
      go (some x) e r = rw e (r x (omega (arith, length-append done (x ∷ []))) (step_placed done x e p))

  -- as many rounds as there are items are enough: afterwards none can be placed
  pub placed_done : next R items (placed R items) ≡ none
  placed_done = rounds_done (length items) [] (omega arith) none_placed

  pub placed_late : Late R (placed R items)
  placed_late = placed_placed.late

  -- an item stands in it at most as often as in the items
  pub placed_le : (x : ℕ) → count x (placed R items) ≤ count x items
  placed_le = placed_placed.of

  pub placed_sub : (x : ℕ) → x ∈ placed R items → x ∈ items
  placed_sub x h = omega (arith, placed_le x)

  -- and with each stand the items that it needs
  pub placed_with : (x q : ℕ) → x ∈ placed R items → q ∈ items → R x q ≡ true → q ∈ placed R items
  placed_with = placed_placed.with_needed

  -- all of them, where it did not get stuck
  pub placed_all : (x : ℕ) → stuck R items ≡ false → count x (placed R items) ≡ count x items
  placed_all x h =
      count_same (placed R items) items placed_placed.of (eqb-true (length (placed R items)) (length items) (not-false (eqb (length (placed R items)) (length items)) h)) x

  -- It does not get stuck where each item has a rank, and needs only items of a lower rank.
  module _ (once : (x : ℕ) → count x items ≤ 1) (rank : ℕ → ℕ) (lower : (p q : ℕ) → p ∈ items → q ∈ items → R p q ≡ true → rank q < rank p) where
    descend : (done : List ℕ) → next R items done ≡ none → (n p : ℕ) → p ∈ items → mem p done ≡ false → rank p < n → ⊥
    descend done e zero p m out l = omega arith
    descend done e (suc n) p m out l =
        let w = next_none done e p m out in
        descend done e n w.0 w.1 w.2 (omega (arith, lower p w.0 m w.1 w.3))

    -- fewer than there are: one is left
    left_over : (done : List ℕ) → length done < length items → (p : ℕ) × (p ∈ items) × (mem p done ≡ false)
    left_over done h = go (any (λ p. not (mem p done)) items) refl
      where
        go : (t : Bool) → any (λ p. not (mem p done)) items ≡ t → (p : ℕ) × (p ∈ items) × (mem p done ≡ false)
        go true e = let w = any_true (λ p. not (mem p done)) items e in (w.0, w.1, not-true (mem w.0 done) w.2)
        go false e = absurd (omega (arith, length_mono items done (λ x. all x (zero_or_in (count x items)))))
          where
            all : (x : ℕ) → (count x items ≡ 0) ⊎ (x ∈ items) → count x items ≤ count x done
            all x (inl z) = omega arith
            all x (inr m) = omega (arith, once x, of_mem x done (not-false (mem x done) (any_none (λ p. not (mem p done)) items e x m)))

    rounds_full : (k : ℕ) (done : List ℕ) → length done + k ≡ length items → length (rounds R items k done) ≡ length items
    rounds_full zero done h = omega arith
    rounds_full (suc k) done h = go (next R items done) refl (λ p. rounds_full k (done ++ p ∷ []))
      where
        go : (o : Option ℕ) → next R items done ≡ o → ((p : ℕ) → length (done ++ p ∷ []) + k ≡ length items → length (rounds R items k (done ++ p ∷ [])) ≡ length items)
            → length (rounds R items (suc k) done) ≡ length items
        go none e r =
            let w = left_over done (omega arith) in
            absurd (descend done e (suc (rank w.0)) w.0 w.1 w.2 (omega arith))
        go (some p) e r = rw e (r p (omega (arith, length-append done (p ∷ []))))

    pub not_stuck : stuck R items ≡ false
    not_stuck = ap not (eq-eqb (length (placed R items)) (length items) (rounds_full (length items) [] (omega arith)))
