-- The turns of `place`.
use mathlib.Core.Path.{◌≡◌, refl, sym, ap, ◌∙◌, subst}
use mathlib.Core.Logic.{◌⊎◌, inl, inr, ◌↔◌}
use mathlib.Core.List.{List, [], ◌∷◌, ◌++◌}
use mathlib.Core.Bool.{Bool, true, false, not, ◌&&◌, and-true}
use mathlib.Core.Option.{none, some}
use Prim.Native.Nat.{ℕ, zero, suc, ◌+◌, ◌-◌, ◌≤◌, ◌<◌}
use native.Mathlib.Omega.{arith}
use native.Mathlib.Numerals.{add-one}
use native.Mathlib.Decide.{ℕ_discrete}
use lib.ListN.{length, get_or, set, take}
use lib.Seq.{take-suc-set}
use Rattle.order.specs.LabelLists.{one, count, ◌∈◌, mem, filter}
use Rattle.order.specs.Placing.{waits, next, rounds, placed}
use Rattle.order.proofs.Tests.{both_ways, so_or_not, one_in}
use Rattle.order.proofs.Lists.{in_append, in_single, of_mem, zero_or_in, first_refute}
use Rattle.marks.specs.Marks.{mark, Dropped, First}
use Rattle.placing.specs.UnmetCounts.{Rising, blocks, State, LoweredBy, Placed}
use Rattle.placing.proofs.Lists.{filter_ext, any_zero, zero_any, rising_once, first_least_is, mem_same, mem_other, one_less}

pub record Going (R : ℕ → ℕ → Bool) (items unmet ready order : List ℕ) (w k : ℕ) : Type 0 where
  pub state : State R items (take k order) unmet ready w
  pub rest : rounds R items (length items - k) (take k order) ≡ placed R items
  pub within : k ≤ length items

-- nothing is placed
pub state_none : (R : ℕ → ℕ → Bool) (items unmet ready : List ℕ) (w : ℕ) → ((p : ℕ) → p ∈ items → get_or unmet p 0 ≡ length (filter (R p) items))
    → ((p : ℕ) → (mark ready w 0 p ≡ true) ↔ ((p ∈ items) × (get_or unmet p 0 ≡ 0))) → State R items [] unmet ready w
state_none R items unmet ready w c f = record {
  counts = λ p m. c p m ∙ filter_ext (R p) (blocks R [] p) items (λ q. sym (and-true (R p q)));
  met = λ p m. absurd (omega arith);
  free = λ p. (λ m. let g = (f p).0 m in (g.0, refl, g.1), λ g. (f p).1 (g.0, g.2));
}

module _ (R : ℕ → ℕ → Bool) (items : List ℕ) (rising : Rising items) (w : ℕ) where
  module _ (done unmet ready : List ℕ) (st : State R items done unmet ready w) where
    waiting : (p : ℕ) → p ∈ items → get_or unmet p 0 ≡ 0 → waits R items done p ≡ false
    waiting p m e = any_zero (blocks R done p) items (sym (st.counts p m) ∙ e)

    passes : (p : ℕ) → mark ready w 0 p ≡ true → (not (mem p done) && not (waits R items done p)) ≡ true
    passes p m = let f = (st.free p).0 m in rw (f.1, waiting p f.0 f.2)

    fails : (p : ℕ) → p ∈ items → mark ready w 0 p ≡ false → (not (mem p done) && not (waits R items done p)) ≡ false
    fails p i m = go (so_or_not (mem p done)) (so_or_not (waits R items done p))
      where
        go : (mem p done ≡ true) ⊎ (mem p done ≡ false) → (waits R items done p ≡ true) ⊎ (waits R items done p ≡ false) → (not (mem p done) && not (waits R items done p)) ≡ false
        go (inl e) _ = rw e
        go (inr e) (inl d) = rw (e, d)
        go (inr e) (inr d) = both_ways (mark ready w 0 p) ((st.free p).1 (i, e, st.counts p i ∙ zero_any (blocks R done p) items d)) m

    next_is : (r : ℕ) → First ready w r → next R items done ≡ some r
    next_is r f =
        let m = f.here in
        first_least_is (λ p. not (mem p done) && not (waits R items done p)) items rising r ((st.free r).0 m).0 (passes r m) (λ x i l. fails x i (f.before x l))

    next_none : ((x : ℕ) → mark ready w 0 x ≡ false) → next R items done ≡ none
    next_none f = first_refute (λ p. not (mem p done) && not (waits R items done p)) items (λ x i. fails x i (f x))

  module _ (unmet ready order : List ℕ) (k : ℕ) (g : Going R items unmet ready order w k) where
    pub going_none : k < length items → ((x : ℕ) → mark ready w 0 x ≡ false) → Placed R items order k
    going_none h f = record { cells = sym (step (length items - k) (omega arith)) ∙ g.rest; within = g.within }
      where
        step : (j : ℕ) → 0 < j → rounds R items j (take k order) ≡ take k order
        step zero m = absurd (omega arith)
        step (suc j) m = rw (next_none (take k order) unmet ready g.state f)

    module _ (r : ℕ) (f : First ready w r) where
      -- what is placed next: an item that is not placed and has no unmet needs
      pub item_is : (r ∈ items) × (mem r (take k order) ≡ false) × (get_or unmet r 0 ≡ 0)
      item_is = (g.state.free r).0 f.here

      -- those that need it have it unmet
      module _ (of : (p : ℕ) → R p r ≡ true → p ∈ items) where
        single : count r items ≡ 1
        single = omega (arith, rising_once items rising r, item_is.0)

        less : (p : ℕ) → length (filter (blocks R (take k order ++ r ∷ []) p) items) + one (R p r) ≡ length (filter (blocks R (take k order) p) items)
        less p = one_less R (take k order) r item_is.1 p items single

        item : (p : ℕ) → 0 < one (R p r) → p ∈ items
        item p i = of p (one_in (R p r) i)

        pub unmet_of : (p : ℕ) → one (R p r) ≤ get_or unmet p 0
        unmet_of p = go (zero_or_in (one (R p r)))
          where
            go : (one (R p r) ≡ 0) ⊎ (0 < one (R p r)) → one (R p r) ≤ get_or unmet p 0
            go (inl e) = omega arith
            go (inr i) = omega (arith, less p, g.state.counts p (item p i))

        pub going_step : k < length items → k < length order → (ready₁ unmet' ready' : List ℕ) → Dropped ready ready₁ w 0 r
            → LoweredBy (λ (p : ℕ). one (R p r)) unmet ready₁ unmet' ready' w → Going R items unmet' ready' (set order k r) w (k + 1)
        going_step hk ho ready₁ unmet' ready' drop low = record { state = record { counts = counts; met = met; free = λ p. (there p, back p) }; rest = rest; within = omega arith }
          where
            done : take (k + 1) (set order k r) ≡ take k order ++ r ∷ []
            done = rw add-one (take-suc-set order k r ho)

            counts : (p : ℕ) → p ∈ items → get_or unmet' p 0 ≡ length (filter (blocks R (take (k + 1) (set order k r)) p) items)
            counts p i = rw done (omega (arith, low.counts p, less p, g.state.counts p i))

            met_case : (p : ℕ) → (p ∈ take k order) ⊎ (p ∈ r ∷ []) → get_or unmet' p 0 ≡ 0
            met_case p (inl i) = omega (arith, low.counts p, g.state.met p i)
            met_case p (inr i) =
                let e : p ≡ r = in_single p r i in
                rw e (omega (arith, low.counts r, item_is.2))

            met : (p : ℕ) → p ∈ take (k + 1) (set order k r) → get_or unmet' p 0 ≡ 0
            met p i = met_case p (in_append p (take k order) (r ∷ []) (subst (λ (l : List ℕ). p ∈ l) done i))

            -- what has an unmet need is not placed
            unplaced : (p : ℕ) → 0 < get_or unmet p 0 → mem p (take k order) ≡ false
            unplaced p l = go (so_or_not (mem p (take k order)))
              where
                go : (mem p (take k order) ≡ true) ⊎ (mem p (take k order) ≡ false) → mem p (take k order) ≡ false
                go (inl e) = absurd (omega (arith, g.state.met p (of_mem p (take k order) e)))
                go (inr e) = e

            there : (p : ℕ) → mark ready' w 0 p ≡ true → (p ∈ items) × (mem p (take (k + 1) (set order k r)) ≡ false) × (get_or unmet' p 0 ≡ 0)
            there p e₀ = go (low.only p e₀) (ℕ_discrete p r)
              where
                go : (mark ready₁ w 0 p ≡ true) ⊎ ((0 < one (R p r)) × (get_or unmet' p 0 ≡ 0)) → Dec (p ≡ r)
                    → (p ∈ items) × (mem p (take (k + 1) (set order k r)) ≡ false) × (get_or unmet' p 0 ≡ 0)
                go (inl e) (yes y) = both_ways (mark ready₁ w 0 p) e (ap (mark ready₁ w 0) y ∙ drop.gone)
                go (inl e) (no y) =
                    let o = (g.state.free p).0 (sym (drop.others 0 p (λ _ z. y z)) ∙ e) in
                    (o.0, ap (mem p) done ∙ mem_other p r (take k order) y ∙ o.1, omega (arith, low.counts p, o.2))
                go (inr (i, e)) (yes y) = absurd (omega (arith, item_is.2, low.counts r, subst (λ (v : ℕ). 0 < one (R v r)) y i))
                go (inr (i, e)) (no y) = (item p i, ap (mem p) done ∙ mem_other p r (take k order) y ∙ unplaced p (omega (arith, low.counts p)), e)

            back : (p : ℕ) → (p ∈ items) × (mem p (take (k + 1) (set order k r)) ≡ false) × (get_or unmet' p 0 ≡ 0) → mark ready' w 0 p ≡ true
            back p (i, e, z) = go (zero_or_in (one (R p r))) (ℕ_discrete p r)
              where
                go : (one (R p r) ≡ 0) ⊎ (0 < one (R p r)) → Dec (p ≡ r) → mark ready' w 0 p ≡ true
                go (inr l) _ = low.new p l z
                go (inl l) (yes y) = both_ways (mem p (take (k + 1) (set order k r))) (ap (mem p) done ∙ ap (λ (v : ℕ). mem v (take k order ++ r ∷ [])) y ∙ mem_same r (take k order)) e
                go (inl l) (no y) =
                    low.kept p (drop.others 0 p (λ _ x. y x) ∙ (g.state.free p).1 (i, sym (ap (mem p) done ∙ mem_other p r (take k order) y) ∙ e, omega (arith, low.counts p)))

            step : (j : ℕ) → j ≡ suc (length items - (k + 1)) → rounds R items j (take k order) ≡ rounds R items (length items - (k + 1)) (take k order ++ r ∷ [])
            step j e = rw (e, next_is (take k order) unmet ready g.state r f)

            rest : rounds R items (length items - (k + 1)) (take (k + 1) (set order k r)) ≡ placed R items
            rest = rw done (sym (step (length items - k) (omega arith)) ∙ g.rest)
