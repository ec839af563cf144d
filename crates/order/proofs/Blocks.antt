-- The blocks of some items: being in one block is an equivalence, each block has one smallest label, and placing them never gets stuck.
use mathlib.Core.Path.{◌≡◌, refl, sym, ap, subst}
use mathlib.Core.Logic.{◌⊎◌, inl, inr, ◌↔◌}
use mathlib.Core.List.{List}
use mathlib.Core.Bool.{Bool, true, false, not, ◌&&◌, ◌||◌}
use Prim.Native.Nat.{ℕ, zero, suc, ◌≤◌, ◌<◌}
use native.Mathlib.Omega.{arith}
use lib.Dec.{eqb, ltb}
use lib.ListN.{length}
use borrow.Author.Tests.{eqb-true, eqb-false, eq-eqb, ne_eqb, not-true, not-false, ltb-true, ltb-false}
use Rattle.order.specs.LabelLists.{count, ◌∈◌, mem, filter, any}
use Rattle.order.specs.Closure.{closure}
use Rattle.order.specs.Placing.{stuck}
use Rattle.order.specs.Blocks.{together, block_of, several, is_leader, leaders, block_needs, placed_blocks}
use Rattle.order.proofs.Tests.{not_so, and_left, and_right, and_intro, or_cases, or_left, or_right}
use Rattle.order.proofs.Lists.{mem_of, of_mem, any_true, any_none, any_intro, any_refute, in_filter, in_filter_of, count_filter_le, tally_lt}
use Rattle.order.proofs.Alike.{filter_same, any_same}
use Rattle.order.proofs.Placing.{Late, placed_late, not_stuck}
use Rattle.order.proofs.Closure.{Chain, step, then, closure_exact, closure_same, onto, closure_onto}

pub chain_on : (m : ℕ → ℕ → Bool) {a b c : ℕ} → Chain m a b → Chain m b c → Chain m a c
chain_on m r (step t) = then r t
chain_on m r (then q t) = then (chain_on m r q) t

module _ (R : ℕ → ℕ → Bool) (items : List ℕ) where
  -- ---- needing through other members

  -- by chains of tests
  abbrev pub Onto : ℕ → ℕ → Type 0
  Onto p q = Chain (onto R items) p q

  pub onto_step : (p q : ℕ) → q ∈ items → R p q ≡ true → Onto p q
  onto_step p q m h = step (and_intro (R p q) (mem q items) h (mem_of q items m))

  pub onto_needs : (p q : ℕ) → onto R items p q ≡ true → R p q ≡ true
  onto_needs p q h = and_left (R p q) (mem q items) h

  pub onto_member : (p q : ℕ) → onto R items p q ≡ true → q ∈ items
  onto_member p q h = of_mem q items (and_right (R p q) (mem q items) h)

  pub onto_item : {p q : ℕ} → Onto p q → q ∈ items
  onto_item {p} {q} (step s) = onto_member p q s
  onto_item {p} {q} (then {c = c} r s) = onto_member c q s

  pub onto_trans : (p q r : ℕ) → Onto p q → Onto q r → Onto p r
  onto_trans p q r a b = chain_on (onto R items) a b

  pub needed_chain : (p q : ℕ) → (q ∈ closure R items p) ↔ Onto p q
  needed_chain p q = rw (closure_onto R items p) (closure_exact (onto R items) items onto_member p q)

  -- ---- in one block

  abbrev pub Tog : ℕ → ℕ → Type 0
  Tog p q = (p ≡ q) ⊎ (Onto p q × Onto q p)

  -- the test is that relation
  tog_exact : (p q : ℕ) → (together R items p q ≡ true) ↔ Tog p q
  tog_exact p q = (λ h. there (or_cases (eqb p q) (mem q (closure R items p) && mem p (closure R items q)) h), back)
    where
      there : (eqb p q ≡ true) ⊎ ((mem q (closure R items p) && mem p (closure R items q)) ≡ true) → Tog p q
      there (inl e) = inl (eqb-true p q e)
      there (inr e) = inr (
        (needed_chain p q).0 (of_mem q (closure R items p) (and_left (mem q (closure R items p)) (mem p (closure R items q)) e)),
        (needed_chain q p).0 (of_mem p (closure R items q) (and_right (mem q (closure R items p)) (mem p (closure R items q)) e)),
      )

      back : Tog p q → together R items p q ≡ true
      back (inl e) = or_left (eqb p q) (mem q (closure R items p) && mem p (closure R items q)) (eq-eqb p q e)
      back (inr r) = or_right (eqb p q) (mem q (closure R items p) && mem p (closure R items q))
          (and_intro (mem q (closure R items p)) (mem p (closure R items q)) (mem_of q (closure R items p) ((needed_chain p q).1 r.0))
          (mem_of p (closure R items q) ((needed_chain q p).1 r.1)))

  pub tog_of : (p q : ℕ) → together R items p q ≡ true → Tog p q
  tog_of p q = (tog_exact p q).0

  pub of_tog : (p q : ℕ) → Tog p q → together R items p q ≡ true
  of_tog p q = (tog_exact p q).1

  pub tog_refl : (p : ℕ) → Tog p p
  tog_refl p = inl refl

  pub tog_sym : (p q : ℕ) → Tog p q → Tog q p
  tog_sym p q (inl e) = inl (sym e)
  tog_sym p q (inr r) = inr (r.1, r.0)

  pub tog_trans : (p q r : ℕ) → Tog p q → Tog q r → Tog p r
  tog_trans p q r (inl e) b = subst (λ (z : ℕ). Tog z r) (sym e) b
  tog_trans p q r (inr a) (inl e) = subst (λ (z : ℕ). Tog p z) e (inr a)
  tog_trans p q r (inr a) (inr b) = inr (onto_trans p q r a.0 b.0, onto_trans r q p b.1 a.1)

  pub in_block_lem : (b p : ℕ) → p ∈ block_of R items b → (p ∈ items) × Tog b p
  in_block_lem b p m = let w = in_filter (together R items b) p items m in (w.0, tog_of b p w.1)

  pub block_in : (b p : ℕ) → p ∈ items → Tog b p → p ∈ block_of R items b
  block_in b p m r = in_filter_of (together R items b) p items m (of_tog b p r)

  -- not several: alone
  pub alone : (b : ℕ) → several R items b ≡ false → (p : ℕ) → p ∈ items → Tog b p → p ≡ b
  alone b h p m r = eqb-true p b (not-false (eqb p b) (any_none (λ q. not (eqb q b)) (block_of R items b) h p (block_in b p m r)))

  -- ---- every block has one smallest label

  -- none of its block is below one that leads it
  pub lead_smallest : (b p : ℕ) → is_leader R items b ≡ true → p ∈ items → Tog b p → b ≤ p
  lead_smallest b p l m r =
      ltb-false p b (any_none (λ q. ltb q b) (block_of R items b) (not-true (any (λ q. ltb q b) (block_of R items b)) l) p (block_in b p m r))

  abbrev pub Leader : ℕ → Type 0
  Leader p = (b : ℕ) × (b ∈ items) × (is_leader R items b ≡ true) × Tog b p

  leader_step : (p : ℕ) → p ∈ items → ((q : ℕ) → q < p → q ∈ items → Leader q) → Leader p
  leader_step p m r = go (any (λ q. ltb q p) (block_of R items p)) refl
    where
      go : (b : Bool) → any (λ q. ltb q p) (block_of R items p) ≡ b → Leader p
      go true e =
          let w = any_true (λ q. ltb q p) (block_of R items p) e in
          let i = in_block_lem p w.0 w.1 in
          let l = r w.0 (ltb-true w.0 p w.2) i.0 in
          (l.0, l.1, l.2, tog_trans l.0 w.0 p l.3 (tog_sym p w.0 i.1))
      go false e = (p, m, ap not e, tog_refl p)

  pub leader_of : (p : ℕ) → p ∈ items → Leader p
  leader_of p m = go p p (omega arith) m
    where
      go : (k p : ℕ) → p ≤ k → p ∈ items → Leader p
      go zero p l m = leader_step p m (λ q h. absurd (omega arith))
      go (suc k) p l m = leader_step p m (λ q h. go k q (omega arith))

  pub leader_once : (b c : ℕ) → b ∈ items → c ∈ items → is_leader R items b ≡ true → is_leader R items c ≡ true → Tog b c → b ≡ c
  leader_once b c mb mc lb lc r = omega (arith, lead_smallest b c lb mc r, lead_smallest c b lc mb (tog_sym b c r))

  -- a member that is alone in its block leads it
  pub alone_leads : (p : ℕ) → several R items p ≡ false → is_leader R items p ≡ true
  alone_leads p h = ap not (any_refute (λ q. ltb q p) (block_of R items p) (λ q m.
      let i = in_block_lem p q m in
      let e = alone p h q i.0 i.1 in
      not_so (ltb q p) (λ s. omega (arith, ltb-true q p s, e))))

  -- ---- placing the blocks

  -- none needs itself or a later one
  pub blocks_late : Late (block_needs R items) (placed_blocks R items)
  blocks_late = placed_late (block_needs R items) (leaders R items)

  pub lead_of : (b : ℕ) → b ∈ leaders R items → (b ∈ items) × (is_leader R items b ≡ true)
  lead_of b m = in_filter (is_leader R items) b items m

  pub leaders_once : ((b : ℕ) → count b items ≤ 1) → (b : ℕ) → count b (leaders R items) ≤ 1
  leaders_once once b = omega (arith, count_filter_le (is_leader R items) b items, once b)

  pub block_needs_of : (b c p q : ℕ) → (b ≡ c → ⊥) → p ∈ items → q ∈ items → Tog b p → Tog c q → R p q ≡ true
      → block_needs R items b c ≡ true
  block_needs_of b c p q d mp mq tp tq h =
      and_intro (not (eqb b c)) (any (λ p. any (λ q. R p q) (block_of R items c)) (block_of R items b)) (ap not (ne_eqb b c d))
      (any_intro (λ p. any (λ q. R p q) (block_of R items c)) (block_of R items b) p (block_in b p mp tp)
      (any_intro (λ q. R p q) (block_of R items c) q (block_in c q mq tq) h))

  pub of_block_needs : (b c : ℕ) → block_needs R items b c ≡ true
      → (b ≡ c → ⊥) × ((p : ℕ) × (q : ℕ) × (p ∈ items) × (q ∈ items) × Tog b p × Tog c q × (R p q ≡ true))
  of_block_needs b c h =
      let F : ℕ → Bool = λ p. any (λ q. R p q) (block_of R items c) in
      let d = eqb-false b c (not-true (eqb b c) (and_left (not (eqb b c)) (any F (block_of R items b)) h)) in
      let u = any_true F (block_of R items b) (and_right (not (eqb b c)) (any F (block_of R items b)) h) in
      let w = any_true (λ q. R u.0 q) (block_of R items c) u.2 in
      let ip = in_block_lem b u.0 u.1 in
      let iq = in_block_lem c w.0 w.1 in
      (d, (u.0, w.0, ip.0, iq.0, ip.1, iq.1, w.2))

  -- what one needs, all of its block need
  tog_onto : (b p q c : ℕ) → Tog b p → Onto p q → Tog c q → Onto b c
  tog_onto b p q c tp r tq = left tp (right tq)
    where
      right : Tog c q → Onto p c
      right (inl e) = subst (λ (z : ℕ). Onto p z) (sym e) r
      right (inr w) = onto_trans p q c r w.1

      left : Tog b p → Onto p c → Onto b c
      left (inl e) x = subst (λ (z : ℕ). Onto z c) (sym e) x
      left (inr w) x = onto_trans b p c w.0 x

  pub block_needs_onto : (b c : ℕ) → block_needs R items b c ≡ true → Onto b c
  block_needs_onto b c h = let w = (of_block_needs b c h).1 in tog_onto b w.0 w.1 c w.4 (onto_step w.0 w.1 w.3 w.6) w.5

  -- b and what it needs
  abbrev reach : ℕ → ℕ → Bool
  reach b q = eqb q b || mem q (closure R items b)

  abbrev rank : ℕ → ℕ
  rank b = length (filter (reach b) items)

  -- a block needs others that need fewer members
  pub blocks_free : ((b : ℕ) → count b items ≤ 1) → stuck (block_needs R items) (leaders R items) ≡ false
  blocks_free once = not_stuck (block_needs R items) (leaders R items) (leaders_once once) rank lower
    where
      lower : (b c : ℕ) → b ∈ leaders R items → c ∈ leaders R items → block_needs R items b c ≡ true → rank c < rank b
      lower b c mb mc h =
          tally_lt (reach c) (reach b) items
          (λ x m s. wider x (or_cases (eqb x c) (mem x (closure R items c)) s)) b (lead_of b mb).0
          (not_so (reach c b) (λ s. back (or_cases (eqb b c) (mem b (closure R items c)) s)))
          (or_left (eqb b b) (mem b (closure R items b)) (eq-eqb b b refl))
        where
          differ : b ≡ c → ⊥
          differ = (of_block_needs b c h).0

          r : Onto b c
          r = block_needs_onto b c h

          wider : (x : ℕ) → (eqb x c ≡ true) ⊎ (mem x (closure R items c) ≡ true) → (eqb x b || mem x (closure R items b)) ≡ true
          wider x (inl e) = or_right (eqb x b) (mem x (closure R items b)) (mem_of x (closure R items b) ((needed_chain b x).1 (rw (eqb-true x c e) r)))
          wider x (inr e) =
              or_right (eqb x b) (mem x (closure R items b)) (mem_of x (closure R items b) ((needed_chain b x).1 (onto_trans b c x r ((needed_chain c x).0 (of_mem x (closure R items c) e)))))

          back : (eqb b c ≡ true) ⊎ (mem b (closure R items c) ≡ true) → ⊥
          back (inl e) = differ (eqb-true b c e)
          back (inr e) =
              let lb = lead_of b mb in
              let lc = lead_of c mc in
              differ (leader_once b c lb.0 lc.0 lb.1 lc.1 (inr (r, (needed_chain c b).0 (of_mem b (closure R items c) e))))

-- ---- needs that agree on the items make the same blocks

module _ (R S : ℕ → ℕ → Bool) (items : List ℕ) (same : (p q : ℕ) → p ∈ items → q ∈ items → R p q ≡ S p q) where
  needed_same : (p : ℕ) → p ∈ items → closure R items p ≡ closure S items p
  needed_same p m = closure_same R S items same p (λ q. same p q m)

  pub block_same : (p : ℕ) → p ∈ items → block_of R items p ≡ block_of S items p
  block_same p m = filter_same (together R items p) (together S items p) items (λ q i. rw (needed_same p m, needed_same q i))

  pub leader_same : (p : ℕ) → p ∈ items → is_leader R items p ≡ is_leader S items p
  leader_same p m = rw (block_same p m)

  pub leaders_same : leaders R items ≡ leaders S items
  leaders_same = filter_same (is_leader R items) (is_leader S items) items leader_same

  pub block_needs_same : (b c : ℕ) → b ∈ items → c ∈ items → block_needs R items b c ≡ block_needs S items b c
  block_needs_same b c mb mc = rw (block_same b mb, block_same c mc) (ap (λ (z : Bool). not (eqb b c) && z)
      (any_same (λ p. any (R p) (block_of S items c)) (λ p. any (S p) (block_of S items c)) (block_of S items b)
      (λ p i. any_same (R p) (S p) (block_of S items c) (λ q j. same p q (in_block_lem S items b p i).0 (in_block_lem S items c q j).0))))
