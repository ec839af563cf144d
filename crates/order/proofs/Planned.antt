-- Demand 3, as far as it speaks of orders: what Plan's answer means.
use mathlib.Core.Path.{◌≡◌, refl, subst}
use mathlib.Core.Logic.{◌⊎◌, inl, inr, ◌↔◌}
use mathlib.Core.List.{List}
use mathlib.Core.Bool.{Bool, true, false}
use mathlib.Core.Option.{Option, none, some}
use Prim.Native.Nat.{ℕ, zero, suc, ◌≤◌, ◌<◌}
use native.Mathlib.Omega.{arith}
use native.Mathlib.Decide.{dec_lt}
use lib.IntN.{ℤ}
use lib.ListN.{length}
use Rattle.cells.specs.Accepted.{Accepted}
use Rattle.order.specs.LabelLists.{count, ◌∈◌}
use Rattle.order.specs.Order.{is_v, all_labels, values, Within, reaches, NoCycle, Proper, Consecutive, Whole, first_cycle, sheet_tangled, plan_order}
use Rattle.order.specs.Order.{Answer, cycle, whole, mixed, plan, order_of, place16}
use Rattle.order.specs.Tangles.{SomeTangled, ClearSideBySide}
use Rattle.order.specs.PlanMeans.{SmallestCycle, Row16, PlanMeans}
use Rattle.order.proofs.Tests.{both_ways}
use Rattle.order.proofs.Lists.{zero_or_in, first_some, first_none, first_least, length_mono, length_up_from}
use Rattle.order.proofs.Joined.{none_consecutive}
use Rattle.order.proofs.Tables.{v_kind, kind_v, v_def, kind_label, pos_of, in_labels, in_values, value_of, reaches_exact}
use Rattle.order.proofs.Proper.{listed_once, listed_value, cycle_improper}
use Rattle.order.proofs.TangledExact.{tangled_exact}
use Rattle.order.proofs.BlockPlan.{order_proper, order_clear}
use Rattle.order.proofs.Tangles.{whole_untangled, clear_whole}

row16_one : (t : List ℤ) (a b : ℕ) → Row16 t a → Row16 t b → a ≡ b
row16_one t zero zero r s = refl
row16_one t zero (suc b) r s = absurd (r (suc b) s.value s.itself)
row16_one t (suc a) zero r s = absurd (s (suc a) r.value r.itself)
row16_one t (suc a) (suc b) r s = go (dec_lt a b) (dec_lt b a)
  where
    go : Dec (a < b) → Dec (b < a) → suc a ≡ suc b
    go (yes l) _ = absurd (s.smallest (suc a) (omega arith) r.value r.itself)
    go (no l) (yes m) = absurd (r.smallest (suc b) (omega arith) s.value s.itself)
    go (no l) (no m) = omega arith

module _ (t : List ℤ) (n : ℕ) (ok : Accepted t n) where
  -- row 16 finds the smallest V that reaches itself
  pub cycle_smallest : (v : ℕ) → first_cycle t n ≡ some v → SmallestCycle t v
  cycle_smallest v e =
      let w = first_some (λ v. reaches t n v v) (values t n) v e in
      record {
        value = v_kind t v (value_of t n ok v w.0);
        itself = (reaches_exact t n ok v v).0 w.1;
        smallest = λ u l k r. below u l (kind_v t u k) ((reaches_exact t n ok u u).1 r);
      }
    where
      below : (u : ℕ) → u < v → is_v t u ≡ true → reaches t n u u ≡ true → ⊥
      below u l k r =
          both_ways (reaches t n u u) r (first_least (λ v. reaches t n v v) (is_v t) 1 n v e u (pos_of t n ok u (v_def t u k)) l k)

  -- or nothing, where there is none
  pub cycle_none : first_cycle t n ≡ none → NoCycle t
  cycle_none e v k r =
      both_ways (reaches t n v v) ((reaches_exact t n ok v v).1 r) (first_none (λ v. reaches t n v v) (values t n) e v (in_values t n ok v (kind_v t v k)))

  -- so its place is that of the table, and no other is
  row_16 : Row16 t (place16 t n)
  row_16 = go (first_cycle t n) refl
    where
      go : (c : Option ℕ) → first_cycle t n ≡ c → Row16 t (place16 t n)
      go none e = rw e (cycle_none e)
      go (some zero) e = let c = cycle_smallest 0 e in absurd (omega (arith, c.value))
      go (some (suc v)) e = rw e (cycle_smallest (suc v) e)

  pub place16_exactly : (k : ℕ) → (place16 t n ≡ k) ↔ Row16 t k
  place16_exactly k = (λ e. subst (Row16 t) e row_16, λ r. row16_one t (place16 t n) k row_16 r)

  -- with no cycle some block has several members, or the plan is whole
  untangled_whole : NoCycle t → sheet_tangled t n ≡ false → Whole t (plan_order t n)
  untangled_whole nc f =
      clear_whole t n ok (plan_order t n) (order_clear t n ok nc) (λ s. both_ways (sheet_tangled t n) ((tangled_exact t n ok).1 s) f)

  -- Plan's answer means what it has to
  pub planned : PlanMeans t (plan t n)
  planned = go (first_cycle t n) refl (sheet_tangled t n) refl
    where
      go : (c : Option ℕ) → first_cycle t n ≡ c → (s : Bool) → sheet_tangled t n ≡ s → PlanMeans t (plan t n)
      go (some v) e s f = let c = cycle_smallest v e in rw e (c, cycle_improper t v c.value c.itself)
      go none e true f =
          let nc = cycle_none e in
          rw (e, f) (order_proper t n ok nc, λ o p w. whole_untangled t n ok o p w ((tangled_exact t n ok).0 f), order_clear t n ok nc)
      go none e false f =
          let nc = cycle_none e in
          rw (e, f) (order_proper t n ok nc, untangled_whole nc f, order_clear t n ok nc)

  -- what it writes is a proper order, unless it refuses, and no longer than n
  pub plan_proper : NoCycle t → Proper t (order_of (plan t n))
  plan_proper nc = go (plan t n) planned
    where
      go : (a : Answer) → PlanMeans t a → Proper t (order_of a)
      go (cycle v) p = absurd (nc v p.0.value p.0.itself)
      go (whole o) p = p.0
      go (mixed o) p = p.0

  -- "the values of a Group are side by side if neither it nor a Group around it is in a block of several", of what it writes
  pub plan_clear : ClearSideBySide t (order_of (plan t n))
  plan_clear g k clear = go (plan t n) planned
    where
      go : (a : Answer) → PlanMeans t a → Consecutive (Within t g) (order_of a)
      go (cycle v) p = none_consecutive (Within t g)
      go (whole o) p = p.2 g k clear
      go (mixed o) p = p.2 g k clear

  pub order_short : (o : List ℕ) → Proper t o → length o ≤ n
  order_short o p =
      let h = length_mono o (all_labels n) (λ v. at v (zero_or_in (count v o))) in
      omega (arith, length_up_from 1 n)
    where
      at : (v : ℕ) → (count v o ≡ 0) ⊎ (v ∈ o) → count v o ≤ count v (all_labels n)
      at v (inl e) = omega arith
      at v (inr m) =
          let k = listed_value p v m in
          let b = kind_label t n ok v (omega arith) in
          omega (arith, listed_once p v k, in_labels t n ok v b.0 b.1)

  -- ---- so, in demand 3's words

  -- "Plan refuses with 16 exactly when there is no proper order"
  pub refuses_exactly : ((v : ℕ) × (plan t n ≡ cycle v)) ↔ ((o : List ℕ) → Proper t o → ⊥)
  refuses_exactly = (there, λ h. back (plan t n) refl h)
    where
      there : (v : ℕ) × (plan t n ≡ cycle v) → (o : List ℕ) → Proper t o → ⊥
      there (v, e) = let p : PlanMeans t (cycle v) = rw e at planned in p.1

      back : (a : Answer) → plan t n ≡ a → ((o : List ℕ) → Proper t o → ⊥) → (v : ℕ) × (plan t n ≡ cycle v)
      back (cycle v) e h = (v, e)
      back (whole o) e h = let p : PlanMeans t (whole o) = rw e at planned in absurd (h o p.0)
      back (mixed o) e h = let p : PlanMeans t (mixed o) = rw e at planned in absurd (h o p.0)

  -- "if some proper order is whole, a whole one with the answer whole"
  pub whole_exactly : ((o : List ℕ) × (plan t n ≡ whole o)) ↔ ((o : List ℕ) × Proper t o × Whole t o)
  whole_exactly = (there, λ h. back (plan t n) refl h)
    where
      there : (o : List ℕ) × (plan t n ≡ whole o) → (o : List ℕ) × Proper t o × Whole t o
      there (o, e) = let p : PlanMeans t (whole o) = rw e at planned in (o, p.0, p.1)

      back : (a : Answer) → plan t n ≡ a → (o : List ℕ) × Proper t o × Whole t o → (o : List ℕ) × (plan t n ≡ whole o)
      back (cycle v) e (o, p, w) = let q : PlanMeans t (cycle v) = rw e at planned in absurd (q.1 o p)
      back (whole o) e h = (o, e)
      back (mixed q) e (o, p, w) = let r : PlanMeans t (mixed q) = rw e at planned in absurd (r.1 o p w)

  -- "if none is, one with the answer mixed"
  pub mixed_exactly : ((o : List ℕ) × (plan t n ≡ mixed o)) ↔ (((o : List ℕ) × Proper t o) × ((o : List ℕ) → Proper t o → Whole t o → ⊥))
  mixed_exactly = (there, λ h. back (plan t n) refl h)
    where
      there : (o : List ℕ) × (plan t n ≡ mixed o) → ((o : List ℕ) × Proper t o) × ((o : List ℕ) → Proper t o → Whole t o → ⊥)
      there (o, e) = let p : PlanMeans t (mixed o) = rw e at planned in ((o, p.0), p.1)

      back : (a : Answer) → plan t n ≡ a → ((o : List ℕ) × Proper t o) × ((o : List ℕ) → Proper t o → Whole t o → ⊥) → (o : List ℕ) × (plan t n ≡ mixed o)
      back (cycle v) e ((o, p), h) = let q : PlanMeans t (cycle v) = rw e at planned in absurd (q.1 o p)
      back (whole o) e (_, h) = let r : PlanMeans t (whole o) = rw e at planned in absurd (h o r.0 r.1)
      back (mixed o) e h = (o, e)

  -- some proper order is whole exactly where no block has several members
  pub untangled_exactly : NoCycle t → (SomeTangled t → ⊥) ↔ ((o : List ℕ) × Proper t o × Whole t o)
  untangled_exactly nc = (
    λ untangled. (plan_order t n, order_proper t n ok nc, clear_whole t n ok (plan_order t n) (order_clear t n ok nc) untangled),
    λ h. whole_untangled t n ok h.0 h.1 h.2,
  )
