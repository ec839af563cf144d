-- A Group has a block of several exactly where placing its members gets stuck; and where no block has several, the plan is document 01's
-- whole plan.
use mathlib.Core.Path.{◌≡◌, refl, sym, ap, ◌∙◌, subst}
use mathlib.Core.Logic.{◌⊎◌, inl, inr}
use mathlib.Core.List.{List, [], ◌∷◌}
use mathlib.Core.Bool.{Bool, true, false, not, ◌&&◌}
use mathlib.Core.Option.{Option, none, some}
use Prim.Native.Nat.{ℕ, zero, suc, ◌<◌}
use native.Mathlib.Omega.{arith}
use native.Mathlib.Decide.{ℕ_discrete}
use lib.Dec.{eqb}
use lib.IntN.{ℤ}
use lib.ListN.{length}
use borrow.Author.Tests.{eqb-false, eq-eqb, ne_eqb, not-true}
use Rattle.cells.specs.Accepted.{Accepted}
use Rattle.order.specs.LabelLists.{◌∈◌, joined}
use Rattle.order.specs.Placing.{placed, stuck}
use Rattle.order.specs.Blocks.{several, is_leader, leaders, block_needs}
use Rattle.order.specs.Order.{is_g, all_labels, members, NoCycle, needs, member_block, ordered, listed, block_listed, group_plan, plan_order, group_tangled, sheet_tangled}
use Rattle.order.specs.Order.{first_cycle, whole, plan}
use Rattle.order.specs.Tangles.{SomeTangled}
use Rattle.order.specs.WholePlan.{whole_group, whole_plan}
use Rattle.order.proofs.Tests.{both_ways, so_or_not, not_so, and_intro}
use Rattle.order.proofs.Lists.{in_cons, any_true, any_none, any_intro, any_refute}
use Rattle.order.proofs.Placing.{Late, placed_late, placed_sub, placed_with, placed_all}
use Rattle.order.proofs.Closure.{step, then, onto}
use Rattle.order.proofs.Joined.{joined_same, ahead}
use Rattle.order.proofs.Tables.{g_def, def_label, in_labels, top_group, members_once}
use Rattle.order.proofs.Needs.{needs_elim}
use Rattle.order.proofs.Alike.{same_test, filter_all, placed_same}
use Rattle.order.proofs.Blocks.{Onto, onto_needs, onto_member, Tog, tog_refl, in_block_lem, alone, alone_leads, block_needs_of, of_block_needs, blocks_free}
use Rattle.order.proofs.TangledExact.{tangled_exact}
use Rattle.order.proofs.Unrolled.{listed_same}
use Rattle.order.proofs.Planned.{cycle_smallest}

-- what a label needs stands before it, where none needs itself or a later one
late_ahead : (R : ℕ → ℕ → Bool) (l : List ℕ) → Late R l → (p q : ℕ) → p ∈ l → q ∈ l → R p q ≡ true → ahead (eqb q) l < ahead (eqb p) l
late_ahead R [] h p q mp mq r = absurd (omega arith)
late_ahead R (x ∷ l) h p q mp mq r = go (in_cons p x l mp) (ℕ_discrete p x) (in_cons q x l mq) (ℕ_discrete q x) (late_ahead R l h.1 p q)
  where
    go : (p ≡ x) ⊎ (p ∈ l) → Dec (p ≡ x) → (q ≡ x) ⊎ (q ∈ l) → Dec (q ≡ x) → (p ∈ l → q ∈ l → R p q ≡ true → ahead (eqb q) l < ahead (eqb p) l)
        → ahead (eqb q) (x ∷ l) < ahead (eqb p) (x ∷ l)
    go _ (yes e) _ _ ih = both_ways (R x q) (rw e at r) (h.0 q mq)
    go _ (no e) _ (yes f) ih = rw (eq-eqb q x f, ne_eqb p x e) (omega arith)
    go (inl e) (no d) _ (no f) ih = absurd (d e)
    go (inr i) (no d) (inl e) (no f) ih = absurd (f e)
    go (inr i) (no d) (inr j) (no f) ih = let k = ih i j r in rw (ne_eqb q x f, ne_eqb p x d) (omega arith)

module _ (t : List ℤ) (n : ℕ) (ok : Accepted t n) (g : ℕ) where
  abbrev R : ℕ → ℕ → Bool
  R = needs t n

  abbrev items : List ℕ
  items = members t n g

  -- ---- a Group whose blocks are single members

  module _ (single : group_tangled t n g ≡ false) where
    pub one_each : (p : ℕ) → p ∈ members t n g → several R items p ≡ false
    one_each p m = any_none (several R items) (members t n g) single p m

    leaders_all : leaders R items ≡ members t n g
    leaders_all = filter_all (is_leader R items) (members t n g) (λ p m. alone_leads R items p (one_each p m))

    needs_same : (p q : ℕ) → p ∈ members t n g → q ∈ members t n g → block_needs R items p q ≡ needs t n p q
    needs_same p q mp mq = same_test (block_needs R items p q) (needs t n p q) there back
      where
        there : block_needs R items p q ≡ true → needs t n p q ≡ true
        there h =
            let w = (of_block_needs R items p q h).1 in
            let e₁ = alone R items p (one_each p mp) w.0 w.2 w.4 in
            let e₂ = alone R items q (one_each q mq) w.1 w.3 w.5 in
            subst (λ (z : ℕ). needs t n p z ≡ true) e₂ (subst (λ (z : ℕ). needs t n z w.1 ≡ true) e₁ w.6)

        back : needs t n p q ≡ true → block_needs R items p q ≡ true
        back h = block_needs_of R items p q p q (needs_elim t n ok p q h).0 mp mq (tog_refl R items p) (tog_refl R items q) h

    -- its blocks are placed as its members are
    pub blocks_ordered : ordered t n g ≡ placed (needs t n) (members t n g)
    blocks_ordered = ap (placed (block_needs R items)) leaders_all ∙ placed_same (block_needs R items) R items needs_same

    single_free : stuck (needs t n) (members t n g) ≡ false
    single_free =
        ap (λ (l : List ℕ). not (eqb (length l) (length (members t n g)))) (sym blocks_ordered)
        ∙ ap (λ (l : List ℕ). not (eqb (length (ordered t n g)) (length l))) (sym leaders_all)
        ∙ blocks_free R items (members_once t n ok g)

  -- ---- the members placed before it gets stuck

  -- what a placed member needs is placed before it, also what it needs through others
  abbrev Before : ℕ → ℕ → Type 0
  Before q p = (q ∈ placed R items) × (ahead (eqb q) (placed R items) < ahead (eqb p) (placed R items))

  fall : (p q : ℕ) → p ∈ placed R items → onto R items p q ≡ true → Before q p
  fall p q mp s =
      let h = onto_needs R items p q s in
      let i = placed_with R items p q mp (onto_member R items p q s) h in
      (i, late_ahead (needs t n) (placed R items) (placed_late R items) p q mp i h)

  placed_falls : {p q : ℕ} → p ∈ placed R items → Onto R items p q → Before q p
  placed_falls {p} {q} mp (step s) = fall p q mp s
  placed_falls {p} {q} mp (then {c = c} r s) =
      let a = placed_falls mp r in
      let b = fall c q a.0 s in
      (b.0, omega (arith, a.1, b.1))

  -- a member that is placed before its Group gets stuck is alone in its block
  pub placed_single : (p : ℕ) → p ∈ placed (needs t n) (members t n g) → several (needs t n) (members t n g) p ≡ false
  placed_single p m = not_so (several R items p) (λ h.
      let u = any_true (λ q. not (eqb q p)) (member_block t n g p) h in
      no_round u.0 (eqb-false u.0 p (not-true (eqb u.0 p) u.2)) (in_block_lem R items p u.0 u.1).1)
    where
      no_round : (q : ℕ) → (q ≡ p → ⊥) → Tog R items p q → ⊥
      no_round q d (inl e) = d (sym e)
      no_round q d (inr r) = let a = placed_falls m r.0 in omega (arith, a.1, (placed_falls a.0 r.1).1)

  free_single : stuck (needs t n) (members t n g) ≡ false → group_tangled t n g ≡ false
  free_single free =
      any_refute (several R items) (members t n g) (λ p m. placed_single p (omega (arith, placed_all R items p free)))

  -- a Group has a block of several exactly where placing its members gets stuck
  pub stuck_tangled : stuck (needs t n) (members t n g) ≡ group_tangled t n g
  stuck_tangled = go (so_or_not (group_tangled t n g)) (so_or_not (stuck R items))
    where
      go : (group_tangled t n g ≡ true) ⊎ (group_tangled t n g ≡ false) → (stuck R items ≡ true) ⊎ (stuck R items ≡ false) → stuck R items ≡ group_tangled t n g
      go (inr e) _ = single_free e ∙ sym e
      go (inl e) (inl f) = f ∙ sym e
      go (inl e) (inr f) = both_ways (group_tangled t n g) e (free_single f)

module _ (t : List ℤ) (n : ℕ) (ok : Accepted t n) where
  module _ (single : sheet_tangled t n ≡ false) where
    group_single : (g : ℕ) → is_g t g ≡ true → group_tangled t n g ≡ false
    group_single g ig = not_so (group_tangled t n g) (λ h.
        let b = def_label t n ok g (g_def t g ig) in
        both_ways (sheet_tangled t n)
        (any_intro (λ g. is_g t g && group_tangled t n g) (all_labels n) g (in_labels t n ok g b.0 b.1) (and_intro (is_g t g) (group_tangled t n g) ig h))
        single)

    group_same : (k g : ℕ) → is_g t g ≡ true → group_plan t n k g ≡ whole_group t n k g
    group_same zero g ig = refl
    group_same (suc k) g ig =
        joined_same (block_listed t n g (λ p. group_plan t n k p)) (listed t (λ p. whole_group t n k p)) (ordered t n g) (λ b m. each b m (group_same k b))
        ∙ ap (joined (listed t (λ p. whole_group t n k p))) (blocks_ordered t n ok g (group_single g ig))
      where
        each : (b : ℕ) → b ∈ ordered t n g → (is_g t b ≡ true → group_plan t n k b ≡ whole_group t n k b)
            → block_listed t n g (λ p. group_plan t n k p) b ≡ listed t (λ p. whole_group t n k p) b
        each b m ih = rw alone_there (listed_same t n (λ p. group_plan t n k p) (λ p. whole_group t n k p) b ih)
          where
            alone_there : several (needs t n) (members t n g) b ≡ false
            alone_there =
                one_each t n ok g (group_single g ig) b
                (placed_sub (needs t n) (members t n g) b (subst (λ (l : List ℕ). b ∈ l) (blocks_ordered t n ok g (group_single g ig)) m))

  -- where no block has several members the plan is document 01's whole plan, label for label
  pub untangled_order : (SomeTangled t → ⊥) → plan_order t n ≡ whole_plan t n
  untangled_order untangled = group_same (not_so (sheet_tangled t n) (λ h. untangled ((tangled_exact t n ok).0 h))) n 1 (top_group t n ok)

  -- and, with no cycle, the answer is whole
  pub untangled_plan : NoCycle t → (SomeTangled t → ⊥) → plan t n ≡ whole (whole_plan t n)
  untangled_plan nc untangled = go (first_cycle t n) refl
    where
      go : (c : Option ℕ) → first_cycle t n ≡ c → plan t n ≡ whole (whole_plan t n)
      go (some v) e = let c = cycle_smallest t n ok v e in absurd (nc v c.value c.itself)
      go none e = rw (e, not_so (sheet_tangled t n) (λ h. untangled ((tangled_exact t n ok).0 h)), untangled_order untangled)
