-- The plan: with no cycle it is proper, and the values of a Group are consecutive in it if neither that Group nor one around it is in a
-- block of several.
use mathlib.Core.Path.{◌≡◌, sym, ap, ◌∙◌, subst}
use mathlib.Core.Logic.{◌⊎◌, inl, inr}
use mathlib.Core.List.{List, [], append-nil}
use mathlib.Core.Bool.{Bool, true, false, ◌&&◌}
use Prim.Native.Nat.{ℕ, zero, suc, ◌+◌, ◌≤◌, ◌<◌}
use native.Mathlib.Omega.{arith}
use native.Mathlib.Decide.{ℕ_discrete}
use lib.IntN.{ℤ}
use Rattle.cells.specs.Table.{owner, is_definition}
use Rattle.cells.specs.Accepted.{Accepted}
use Rattle.order.specs.LabelLists.{one, count, ◌∈◌, joined}
use Rattle.order.specs.Blocks.{several, is_leader, leaders, block_needs}
use Rattle.order.specs.Order.{is_g, is_v, values, members, Within, within, reaches, NoCycle, Proper, Consecutive, needs, member_block, ordered}
use Rattle.order.specs.Order.{in_block, block_values, block_listed, group_plan, plan_order}
use Rattle.order.specs.Tangles.{Clear, ClearSideBySide}
use Rattle.order.proofs.Tests.{both_ways, so_or_not, not_so, and_left, and_right, and_intro, one_true, one_false, one_in}
use Rattle.order.proofs.Lists.{any_true, any_intro, count_filter_pass, count_filter_fail}
use Rattle.order.proofs.Placing.{Late, placed_late, placed_sub, placed_all}
use Rattle.order.proofs.Joined.{joined_none, joined_one, joined_late, joined_block}
use Rattle.order.proofs.Tables.{g_kind, kind_g, g_def, v_def, v_not_g, def_label, pos_of, owner_below, top_group, count_values, member_of, members_once}
use Rattle.order.proofs.Tables.{count_member}
use Rattle.order.proofs.Tree.{within_trans, within_owner, apart, member_above, leaf, within_top}
use Rattle.order.proofs.Proper.{late_proper, values_free}
use Rattle.order.proofs.Needs.{holds, holds_intro, holds_v, holds_within, holds_in, needs_intro}
use Rattle.order.proofs.Listed.{listed_count, listed_late, listed_group}
use Rattle.order.proofs.Alike.{same_test}
use Rattle.order.proofs.Blocks.{Tog, tog_refl, tog_sym, tog_trans, in_block_lem, block_in, alone, Leader, leader_of, leader_once, alone_leads, lead_of}
use Rattle.order.proofs.Blocks.{leaders_once, blocks_late, block_needs_of, blocks_free}
use Rattle.order.proofs.TangledExact.{several_exact}

module _ (t : List ℤ) (n : ℕ) (ok : Accepted t n) (g : ℕ) where
  abbrev R : ℕ → ℕ → Bool
  R = needs t n

  abbrev items : List ℕ
  items = members t n g

  -- ---- what a block holds

  -- v is a value that is one of the members of b's block, or under one
  abbrev block_holds : ℕ → ℕ → Bool
  block_holds b v = is_v t v && in_block t n g b v

  block_holds_of : (b p v : ℕ) → p ∈ members t n g → Tog R items b p → holds t p v ≡ true → block_holds b v ≡ true
  block_holds_of b p v m r h =
      and_intro (is_v t v) (in_block t n g b v) (holds_v t n ok p v h)
      (any_intro (λ p. within t p v) (member_block t n g b) p (block_in R items b p m r) (holds_within t n ok p v h))

  of_block_holds : (b v : ℕ) → block_holds b v ≡ true → (p : ℕ) × (p ∈ members t n g) × Tog R items b p × (holds t p v ≡ true)
  of_block_holds b v h =
      let w = any_true (λ p. within t p v) (member_block t n g b) (and_right (is_v t v) (in_block t n g b v) h) in
      let i = in_block_lem R items b w.0 w.1 in
      (w.0, i.0, i.1, and_intro (is_v t v) (within t w.0 v) (and_left (is_v t v) (in_block t n g b v) h) w.2)

  block_values_count : (b v : ℕ) → count v (block_values t n g b) ≡ one (block_holds b v)
  block_values_count b v = go (so_or_not (in_block t n g b v)) (so_or_not (is_v t v))
    where
      go : (in_block t n g b v ≡ true) ⊎ (in_block t n g b v ≡ false) → (is_v t v ≡ true) ⊎ (is_v t v ≡ false)
          → count v (block_values t n g b) ≡ one (block_holds b v)
      go (inl e) (inl f) =
          count_filter_pass (in_block t n g b) v (values t n) e ∙ count_values t n ok v
          ∙ (rw f) ∙ sym (one_true (block_holds b v) (and_intro (is_v t v) (in_block t n g b v) f e))
      go (inl e) (inr f) = count_filter_pass (in_block t n g b) v (values t n) e ∙ count_values t n ok v ∙ (rw f)
      go (inr e) f =
          count_filter_fail (in_block t n g b) v (values t n) e
          ∙ sym (one_false (block_holds b v) (λ h. both_ways (in_block t n g b v) (and_right (is_v t v) (in_block t n g b v) h) e))

  -- ---- the blocks, in order

  pub ordered_lead : (b : ℕ) → b ∈ ordered t n g → (b ∈ members t n g) × (is_leader R items b ≡ true)
  ordered_lead b m = lead_of R items b (placed_sub (block_needs R items) (leaders R items) b m)

  ordered_count : (b : ℕ) → count b (ordered t n g) ≡ count b (leaders R items)
  ordered_count b = placed_all (block_needs R items) (leaders R items) b (blocks_free R items (members_once t n ok g))

  pub ordered_once : (b : ℕ) → b ∈ members t n g → is_leader R items b ≡ true → count b (ordered t n g) ≡ 1
  ordered_once b m l =
      let w = member_of t n ok g b m in
      ordered_count b ∙ count_filter_pass (is_leader R items) b (members t n g) l ∙ count_member t n ok g b w.0 w.1

  -- a member's Groups are less deep
  below : (b : ℕ) → b ∈ members t n g → g < b
  below b m = let w = member_of t n ok g b m in omega (arith, owner_below t n ok b (pos_of t n ok b w.0), w.1)

  -- two blocks hold nothing in common
  blocks_apart : (b c v : ℕ) → b ∈ members t n g → c ∈ members t n g → is_leader R items b ≡ true → is_leader R items c ≡ true → (b ≡ c → ⊥)
      → block_holds b v ≡ true → block_holds c v ≡ true → ⊥
  blocks_apart b c v mb mc lb lc d hb hc = go (ℕ_discrete wb.0 wc.0)
    where
      wb : (p : ℕ) × (p ∈ members t n g) × Tog R items b p × (holds t p v ≡ true)
      wb = of_block_holds b v hb

      wc : (p : ℕ) × (p ∈ members t n g) × Tog R items c p × (holds t p v ≡ true)
      wc = of_block_holds c v hc

      go : Dec (wb.0 ≡ wc.0) → ⊥
      go (yes e) =
          d (leader_once R items b c mb mc lb lc (tog_trans R items b wc.0 c (subst (λ (z : ℕ). Tog R items b z) e wb.2) (tog_sym R items c wc.0 wc.2)))
      go (no e) =
          let dp = member_of t n ok g wb.0 wb.1 in
          let dq = member_of t n ok g wc.0 wc.1 in
          apart t n ok wb.0 wc.0 v (pos_of t n ok wb.0 dp.0) (pos_of t n ok wc.0 dq.0) (dp.1 ∙ sym dq.1) e
          (holds_in t n ok wb.0 v wb.3) (holds_in t n ok wc.0 v wc.3)

  module _ (nc : NoCycle t) where
    -- ---- what a block lists, given what its Groups list

    -- none reaches itself or a later one
    block_late : (group : ℕ → List ℕ) (b : ℕ) → (is_g t b ≡ true → Late (reaches t n) (group b)) → Late (reaches t n) (block_listed t n g group b)
    block_late group b ih = go (so_or_not (several R items b))
      where
        go : (several R items b ≡ true) ⊎ (several R items b ≡ false) → Late (reaches t n) (block_listed t n g group b)
        go (inl e) = rw e (placed_late (reaches t n) (block_values t n g b))
        go (inr e) = rw e (listed_late t n ok group b nc ih)

    -- each value that the block holds once, and nothing else
    block_count : (group : ℕ → List ℕ) (b v : ℕ) → b ∈ members t n g → (is_g t b ≡ true → count v (group b) ≡ one (holds t b v))
        → count v (block_listed t n g group b) ≡ one (block_holds b v)
    block_count group b v m ih = go (so_or_not (several R items b))
      where
        go : (several R items b ≡ true) ⊎ (several R items b ≡ false) → count v (block_listed t n g group b) ≡ one (block_holds b v)
        go (inl e) = rw e (placed_all (reaches t n) (block_values t n g b) v (values_free t n ok nc (in_block t n g b)) ∙ block_values_count b v)
        go (inr e) = rw e (listed_count t n ok group b v (member_of t n ok g b m).0 ih ∙ ap one (same_test (holds t b v) (block_holds b v)
            (λ h. block_holds_of b b v m (tog_refl R items b) h)
            (λ h. let w = of_block_holds b v h in subst (λ (z : ℕ). holds t z v ≡ true) (alone R items b e w.0 w.1 w.2) w.3)))

    -- ---- what the Group lists, given the same

    module _ (group : ℕ → List ℕ) (ig : is_g t g ≡ true) (ih : (p v : ℕ) → is_g t p ≡ true → g < p → count v (group p) ≡ one (holds t p v)) where
      each : (b v : ℕ) → b ∈ members t n g → count v (block_listed t n g group b) ≡ one (block_holds b v)
      each b v m = block_count group b v m (λ i. ih b v i (below b m))

      -- what is listed for a block is a value that it holds
      listed_holds : (b v : ℕ) → b ∈ ordered t n g → v ∈ block_listed t n g group b → block_holds b v ≡ true
      listed_holds b v m i = one_in (block_holds b v) (omega (arith, each b v (ordered_lead b m).0))

      pub count_step : (v : ℕ) → count v (joined (block_listed t n g group) (ordered t n g)) ≡ one (holds t g v)
      count_step v = go (so_or_not (holds t g v))
        where
          hg : 1 ≤ g
          hg = pos_of t n ok g (g_def t g ig)

          go : (holds t g v ≡ true) ⊎ (holds t g v ≡ false) → count v (joined (block_listed t n g group) (ordered t n g)) ≡ one (holds t g v)
          go (inl h) = at (member_above t n ok g v hg (v_def t v (holds_v t n ok g v h)) (holds_in t n ok g v h) other)
            where
              other : v ≡ g → ⊥
              other e = both_ways (is_g t g) ig (v_not_g t g (rw e at (holds_v t n ok g v h)))

              at : (p : ℕ) × (is_definition t p ≡ true) × (owner t p ≡ g) × (Within t p v) → count v (joined (block_listed t n g group) (ordered t n g)) ≡ one (holds t g v)
              at (p, d, e, u) = lead (leader_of R items p mp)
                where
                  mp : p ∈ members t n g
                  mp = omega (arith, count_member t n ok g p d e)

                  hp : holds t p v ≡ true
                  hp = holds_intro t n ok p v (pos_of t n ok p d) (holds_v t n ok g v h) u

                  lead : Leader R items p → count v (joined (block_listed t n g group) (ordered t n g)) ≡ one (holds t g v)
                  lead (b, mb, lb, tb) =
                      joined_one (block_listed t n g group) v b (ordered t n g) (ordered_once b mb lb) rest
                      ∙ each b v mb ∙ one_true (block_holds b v) (block_holds_of b p v mp tb hp) ∙ sym (one_true (holds t g v) h)
                    where
                      rest : (c : ℕ) → c ∈ ordered t n g → (c ≡ b → ⊥) → count v (block_listed t n g group c) ≡ 0
                      rest c m z =
                          let w = ordered_lead c m in
                          each c v w.0 ∙ one_false (block_holds c v) (λ i. blocks_apart c b v w.0 mb w.1 lb z i (block_holds_of b p v mp tb hp))
          go (inr h) = joined_none (block_listed t n g group) v (ordered t n g) nothing ∙ sym (one_false (holds t g v) (λ i. both_ways (holds t g v) i h))
            where
              nothing : (b : ℕ) → b ∈ ordered t n g → count v (block_listed t n g group b) ≡ 0
              nothing b m =
                  each b v (ordered_lead b m).0 ∙ one_false (block_holds b v) (λ s.
                  let i = of_block_holds b v s in
                  let d = member_of t n ok g i.0 i.1 in
                  let u = subst (λ (z : ℕ). Within t z v) d.1 (within_owner t n ok i.0 v (holds_in t n ok i.0 v i.3)) in
                  both_ways (holds t g v) (holds_intro t n ok g v hg (holds_v t n ok i.0 v i.3) u) h)

      pub late_step : ((p : ℕ) → is_g t p ≡ true → g < p → Late (reaches t n) (group p)) → Late (reaches t n) (joined (block_listed t n g group) (ordered t n g))
      late_step late =
          joined_late (reaches t n) (block_needs R items) (block_listed t n g group) (ordered t n g) (blocks_late R items)
          (λ b. omega (arith, ordered_count b, leaders_once R items (members_once t n ok g) b)) (λ b m. block_late group b (λ i. late b i (below b (ordered_lead b m).0))) cross
        where
          cross : (b c x y : ℕ) → b ∈ ordered t n g → c ∈ ordered t n g → (b ≡ c → ⊥) → x ∈ block_listed t n g group b → y ∈ block_listed t n g group c
              → reaches t n x y ≡ true → block_needs R items b c ≡ true
          cross b c x y mb mc d ix iy r =
              let lb = ordered_lead b mb in
              let lc = ordered_lead c mc in
              let p = of_block_holds b x (listed_holds b x mb ix) in
              let q = of_block_holds c y (listed_holds c y mc iy) in
              block_needs_of R items b c p.0 q.0 d p.1 q.1 p.2 q.2
              (needs_intro t n ok p.0 q.0 x y (λ (e : p.0 ≡ q.0). d (leader_once R items b c lb.0 lc.0 lb.1 lc.1
              (tog_trans R items b q.0 c (subst (λ (z : ℕ). Tog R items b z) e p.2) (tog_sym R items c q.0 q.2)))) p.3 q.3 r)

      -- those under h are consecutive if they are so in the list of the member Group p that h is or lies under, and p is alone in its block
      pub widen : (p h : ℕ) → p ∈ members t n g → is_g t p ≡ true → several R items p ≡ false → Within t p h
          → Consecutive (Within t h) (group p) → Consecutive (Within t h) (joined (block_listed t n g group) (ordered t n g))
      widen p h mp gp single u b =
          joined_block (block_listed t n g group) (Within t h) (ordered t n g) p (ordered_once p mp lp) away
          (subst (λ (l : List ℕ). Consecutive (Within t h) l) (sym mine) b)
        where
          lp : is_leader R items p ≡ true
          lp = alone_leads R items p single

          mine : block_listed t n g group p ≡ group p
          mine = rw single (listed_group t n ok group p gp)

          away : (q v : ℕ) → q ∈ ordered t n g → (q ≡ p → ⊥) → v ∈ block_listed t n g group q → Within t h v → ⊥
          away q v mq z m i =
              let w = ordered_lead q mq in
              let hq = listed_holds q v mq m in
              let hp = holds_intro t n ok p v (pos_of t n ok p (g_def t p gp)) (and_left (is_v t v) (in_block t n g q v) hq) (within_trans t n ok p h v u i) in
              blocks_apart q p v w.0 mp w.1 lp z hq (block_holds_of p p v mp (tog_refl R items p) hp)

-- ---- the plan

module _ (t : List ℤ) (n : ℕ) (ok : Accepted t n) (nc : NoCycle t) where
  pub group_count : (k g v : ℕ) → is_g t g ≡ true → n < g + k → count v (group_plan t n k g) ≡ one (holds t g v)
  group_count zero g v ig h = absurd (omega (arith, (def_label t n ok g (g_def t g ig)).1))
  group_count (suc k) g v ig h = count_step t n ok g nc (λ p. group_plan t n k p) ig (λ p v gp l. group_count k p v gp (omega arith)) v

  pub group_late : (k g : ℕ) → is_g t g ≡ true → n < g + k → Late (reaches t n) (group_plan t n k g)
  group_late zero g ig h = tt
  group_late (suc k) g ig h =
      late_step t n ok g nc (λ p. group_plan t n k p) ig (λ p v gp l. group_count k p v gp (omega arith)) (λ p gp l. group_late k p gp (omega arith))

  pub group_clear : (k g h : ℕ) → is_g t g ≡ true → n < g + k → is_g t h ≡ true → Within t g h → Clear t h → Consecutive (Within t h) (group_plan t n k g)
  group_clear zero g h ig fuel ih u clear = absurd (omega (arith, (def_label t n ok g (g_def t g ig)).1))
  group_clear (suc k) g h ig fuel ih u clear = go (ℕ_discrete h g) (λ p gp f w. group_clear k p h gp f ih w clear)
    where
      go : Dec (h ≡ g) → ((p : ℕ) → is_g t p ≡ true → n < p + k → Within t p h → Consecutive (Within t h) (group_plan t n k p))
          → Consecutive (Within t h) (group_plan t n (suc k) g)
      go (yes e) r = record {
        front = [];
        block = group_plan t n (suc k) g;
        back = [];
        parts = sym (append-nil (group_plan t n (suc k) g));
        inside = λ v m. rw e (holds_in t n ok g v (one_in (holds t g v) (omega (arith, group_count (suc k) g v ig fuel))));
        before = λ v m. absurd (omega arith);
        behind = λ v m. absurd (omega arith);
      }
      go (no e) r = at (member_above t n ok g h (pos_of t n ok g (g_def t g ig)) (g_def t h ih) u e)
        where
          at : (p : ℕ) × (is_definition t p ≡ true) × (owner t p ≡ g) × (Within t p h) → Consecutive (Within t h) (group_plan t n (suc k) g)
          at (p, d, f, w) =
              widen t n ok g nc (λ p. group_plan t n k p) ig (λ q v gq l. group_count k q v gq (omega arith)) p h
              (omega (arith, count_member t n ok g p d f)) gp
              (not_so (several (needs t n) (members t n g) p) (λ s. clear p (g_kind t p gp) w (rw f ((several_exact t n ok g p (pos_of t n ok p d)).0 s)))) w
              (r p gp (omega (arith, owner_below t n ok p (pos_of t n ok p d))) w)
            where
              pick : Dec (h ≡ p) → is_g t p ≡ true
              pick (yes z) = rw z at ih
              pick (no z) = leaf t n ok p h (pos_of t n ok p d) (g_def t h ih) w z

              gp : is_g t p ≡ true
              gp = pick (ℕ_discrete h p)

  -- with no cycle the order of the plan is proper
  pub order_proper : Proper t (plan_order t n)
  order_proper = late_proper t n ok (plan_order t n) all_values (group_late n 1 (top_group t n ok) (omega arith))
    where
      all : (v : ℕ) → (is_v t v ≡ true) ⊎ (is_v t v ≡ false) → holds t 1 v ≡ is_v t v
      all v (inl e) = holds_intro t n ok 1 v (omega arith) e (within_top t n ok v (v_def t v e)) ∙ sym e
      all v (inr e) = rw e

      all_values : (v : ℕ) → count v (plan_order t n) ≡ one (is_v t v)
      all_values v = group_count n 1 v (top_group t n ok) (omega arith) ∙ ap one (all v (so_or_not (is_v t v)))

  -- "the values of a Group are side by side if neither it nor a Group around it is in a block of several"
  pub order_clear : ClearSideBySide t (plan_order t n)
  order_clear g k clear =
      let ig = kind_g t g k in group_clear n 1 g (top_group t n ok) (omega arith) ig (within_top t n ok g (g_def t g ig)) clear
