-- The laws of the search: it starts, an item is met, the path is left, a block is found, and it ends.
use mathlib.Core.Path.{◌≡◌, refl, sym, ap, ◌∙◌, subst}
use mathlib.Core.Logic.{◌⊎◌, inl, inr}
use mathlib.Core.List.{List}
use mathlib.Core.Bool.{Bool, true, false, not, ◌&&◌}
use Prim.Native.Nat.{ℕ, ◌+◌, ◌-◌, ◌≤◌, ◌<◌}
use native.Mathlib.Omega.{arith}
use native.Mathlib.Decide.{ℕ_discrete, dec_lt}
use lib.Dec.{ltb}
use lib.ListN.{get_or}
use borrow.Author.Tests.{ltb-true}
use Rattle.order.specs.LabelLists.{◌∈◌}
use Rattle.order.specs.Blocks.{block_of}
use Rattle.order.proofs.Tests.{both_ways, and_left, and_right, and_intro, not_so, so_or_not}
use Rattle.order.proofs.Lists.{zero_or_in, any_refute, tally_lt, filter_le}
use Rattle.order.proofs.Closure.{step, then}
use Rattle.order.proofs.Blocks.{Onto, onto_needs, Tog, in_block_lem, block_in}
use Rattle.order.proofs.Finding.{block_found}
use Rattle.marks.specs.Marks.{mark}
use Rattle.marks.proofs.Squares.{mark_in}
use Rattle.placing.specs.UnmetCounts.{needed, InRows}
use Rattle.blocks.specs.Found.{IsLead}
use Rattle.blocks.specs.Search.{Positions, Among, OneClass, NeedsOrIs, fresh_count, Search, Settled, Kept, StandsFrom, Smallest, HasLeft, Pushed}
use Rattle.blocks.proofs.Reaching.{reach_trans, reach_step, reach_tog, positions_top, positions_fewer, positions_cut, positions_push}

-- ---- p needs q

module _ (square mask : List ℕ) (w p q : ℕ) where
  pub needed_of : mark mask w 0 q ≡ true → mark square w q p ≡ true → mark mask w 0 p ≡ true → needed square mask w p q ≡ true
  needed_of a b c = and_intro (mark mask w 0 q) (mark square w q p && mark mask w 0 p) a (and_intro (mark square w q p) (mark mask w 0 p) b c)

  needed_mask : needed square mask w p q ≡ true → mark mask w 0 q ≡ true
  needed_mask e = and_left (mark mask w 0 q) (mark square w q p && mark mask w 0 p) e

  pub needed_row : needed square mask w p q ≡ true → mark square w q p ≡ true
  needed_row e = and_left (mark square w q p) (mark mask w 0 p) (and_right (mark mask w 0 q) (mark square w q p && mark mask w 0 p) e)

-- ---- the start

module _ (items square mask fresh stacked : List ℕ) (w : ℕ) (same : (q : ℕ) → mark fresh w 0 q ≡ mark mask w 0 q) (clear : (q : ℕ) → mark stacked w 0 q ≡ false) where
  pub search_start : (stack place starts path : List ℕ) → Search items square mask fresh stacked stack place starts path w 0 0 0
  search_start stack place starts path = record {
    fresh_in = λ x m. sym (same x) ∙ m;
    stack_in = λ i h. absurd (omega arith);
    apart = λ x m. clear x;
    on = λ i h. absurd (omega arith);
    off = λ x m. both_ways (mark stacked w 0 x) m (clear x);
    down = λ i j h u. absurd (omega arith);
    up = λ i j h u o. absurd (omega arith);
    joins = λ j i h u r. absurd (omega arith);
    bottom = λ h. absurd (omega arith);
    cuts = record { upward = λ i j h u. absurd (omega arith); under = λ i h. absurd (omega arith) };
    steps = record { upward = λ i j h u. absurd (omega arith); under = λ i h. absurd (omega arith) };
    begun = λ k h. absurd (omega arith);
    searched = λ i h n x m. absurd (omega arith);
    closed = λ x a r f s. both_ways (mark fresh w 0 a) (same a ∙ needed_mask square mask w x a r) f;
    room = omega (arith, filter_le (mark fresh w 0) items);
  }

  -- an item outside the mask is alone in its block
  pub settled_start : (lead : List ℕ) → ((p : ℕ) → p ∈ items → get_or lead p 0 ≡ p) → Settled items square mask fresh stacked lead w
  settled_start lead self x m f s = subst (λ (b : ℕ). IsLead R items x b) (sym (self x m)) (
    block_in R items x x m (inl refl),
    ap not (any_refute (λ q. ltb q x) (block_of R items x) (λ y i. not_so (ltb y x) (λ t. go y (ltb-true y x t) (in_block_lem R items x y i).1))),
  )
    where
      R : ℕ → ℕ → Bool
      R = needed square mask w

      outside : (y : ℕ) → Onto R items y x → ⊥
      outside y (step t) = both_ways (mark fresh w 0 x) (same x ∙ needed_mask square mask w y x (onto_needs R items y x t)) f
      outside y (then {c = z} r t) = both_ways (mark fresh w 0 x) (same x ∙ needed_mask square mask w z x (onto_needs R items z x t)) f

      go : (y : ℕ) → y < x → Tog R items x y → ⊥
      go y h (inl e) = omega arith
      go y h (inr r) = outside y r.1

module _ {items square mask fresh stacked stack place starts path : List ℕ} {w n b p : ℕ} (rows : InRows items square mask w)
    (g : Search items square mask fresh stacked stack place starts path w n b p) where
  -- ---- what the state says at once

  pub stack_item : (i : ℕ) → i < n → get_or stack i 0 ∈ items
  stack_item i h = rows.masked (get_or stack i 0) (g.stack_in i h)

  pub stacked_item : (x : ℕ) → mark stacked w 0 x ≡ true → x ∈ items
  stacked_item x m = let o = g.off x m in subst (λ (y : ℕ). y ∈ items) o.1 (stack_item (get_or place x 0) o.0)

  pub once : (i k : ℕ) → i < k → k < n → get_or stack i 0 ≡ get_or stack k 0 → ⊥
  once i k h u e =
      let z : get_or place (get_or stack i 0) 0 ≡ get_or place (get_or stack k 0) 0 = ap (λ (x : ℕ). get_or place x 0) e in
      omega (arith, (g.on i (omega arith)).1, (g.on k u).1)

  pub some_start : 0 < p → 0 < b
  some_start h = (g.bottom (omega (arith, g.steps.under 0 h))).0

  start_low : (k : ℕ) → k < b → (get_or starts k 0 ≤ get_or path (p - 1) 0) × (0 < p)
  start_low k h = let w = g.begun k h in (omega (arith, positions_top path p n g.steps w.0 w.1, w.2), omega (arith, w.1))

  none_left : p ≡ 0 → (n ≡ 0) × (b ≡ 0)
  none_left e = (go (zero_or_in n), no_start (zero_or_in b))
    where
      no_start : (b ≡ 0) ⊎ (0 < b) → b ≡ 0
      no_start (inl z) = z
      no_start (inr h) = absurd (omega (arith, (start_low 0 h).1))

      go : (n ≡ 0) ⊎ (0 < n) → n ≡ 0
      go (inl z) = z
      go (inr h) = absurd (omega (arith, (g.bottom h).0, no_start (zero_or_in b)))

  pub search_empty : p ≡ 0 → Search items square mask fresh stacked stack place starts path w 0 0 0
  search_empty e =
      let z = none_left e in
      subst (λ (k : ℕ). Search items square mask fresh stacked stack place starts path w 0 0 k) e
      (subst (λ (k : ℕ). Search items square mask fresh stacked stack place starts path w 0 k p) z.1
      (subst (λ (k : ℕ). Search items square mask fresh stacked stack place starts path w k b p) z.0 g))

  -- ---- an item is met

  module _ {q : ℕ} {fresh' stacked' stack' place' starts' path' : List ℕ} {b' : ℕ} (unmet : mark fresh w 0 q ≡ true)
      (from : (p ≡ 0) ⊎ (needed square mask w q (get_or stack (get_or path (p - 1) 0) 0) ≡ true))
      (u : Pushed square fresh stacked stack place starts path fresh' stacked' stack' place' starts' path' w q n b p b') where
    abbrev R : ℕ → ℕ → Bool
    R = needed square mask w

    q_item : q ∈ items
    q_item = rows.masked q (g.fresh_in q unmet)

    old : (i : ℕ) → i < n → get_or stack' i 0 ≡ get_or stack i 0
    old i h = u.stack_put.others i (λ e. omega arith)

    new : (i : ℕ) → ¬ (i < n) → i < n + 1 → get_or stack' i 0 ≡ q
    new i h a = let e : i ≡ n = omega arith in ap (λ (j : ℕ). get_or stack' j 0) e ∙ u.stack_put.own

    -- ---- marks

    still_fresh : (x : ℕ) → mark fresh' w 0 x ≡ true → (mark fresh w 0 x ≡ true) × (x ≡ q → ⊥)
    still_fresh x m = go (ℕ_discrete x q)
      where
        go : Dec (x ≡ q) → (mark fresh w 0 x ≡ true) × (x ≡ q → ⊥)
        go (yes e) = both_ways (mark fresh' w 0 x) m (ap (mark fresh' w 0) e ∙ u.dropped.gone)
        go (no e) = (sym (u.dropped.others 0 x (λ _ z. e z)) ∙ m, e)

    not_fresh : (x : ℕ) → mark fresh w 0 x ≡ false → mark fresh' w 0 x ≡ false
    not_fresh x f = not_so (mark fresh' w 0 x) (λ m. both_ways (mark fresh w 0 x) (still_fresh x m).0 f)

    not_stacked : (x : ℕ) → (x ≡ q → ⊥) → mark stacked w 0 x ≡ false → mark stacked' w 0 x ≡ false
    not_stacked x d s = not_so (mark stacked' w 0 x) (λ m. go (u.added.only x m))
      where
        go : (mark stacked w 0 x ≡ true) ⊎ (x ≡ q) → ⊥
        go (inl m) = both_ways (mark stacked w 0 x) m s
        go (inr e) = d e

    q_stacked : mark stacked' w 0 q ≡ true
    q_stacked = u.added.new q (mark_in fresh w 0 q unmet) refl

    -- what is neither fresh nor on the stack now was so before
    before : (x : ℕ) → mark fresh' w 0 x ≡ false → mark stacked' w 0 x ≡ false → (mark fresh w 0 x ≡ false) × (mark stacked w 0 x ≡ false)
    before x f s = (
      sym (u.dropped.others 0 x (λ _ e. both_ways (mark stacked' w 0 x) (ap (mark stacked' w 0) e ∙ q_stacked) s)) ∙ f,
      not_so (mark stacked w 0 x) (λ m. both_ways (mark stacked' w 0 x) (u.added.kept x m) s),
    )

    -- ---- the new classes

    starts_old : (k : ℕ) → k < b → get_or starts' k 0 ≡ get_or starts k 0
    starts_old k h = u.start_put.others k (λ e. omega arith)

    starts_all : Positions starts' (b + 1) (n + 1)
    starts_all = positions_push starts starts' b n u.start_put g.cuts

    starts_left : Positions starts' b' (n + 1)
    starts_left = positions_fewer starts' (b + 1) (n + 1) b' u.cut.fewer starts_all

    kept_low : (k : ℕ) → k < b' → get_or starts' k 0 ≤ u.low
    kept_low k h = omega (arith, positions_top starts' b' (n + 1) starts_left k h, u.cut.left (omega arith))

    -- those up to j are known to be in one class by the old starts too, where j is below all that is cut
    was_one : (i j : ℕ) → j ≤ u.low → OneClass starts' b' i j → OneClass starts b i j
    was_one i j h o k a l = go (dec_lt k b')
      where
        go : Dec (k < b') → j < get_or starts k 0
        go (yes c) = omega (arith, o k c (omega (arith, starts_old k a)), starts_old k a)
        go (no c) = omega (arith, u.cut.gone k (omega arith) (omega arith), starts_old k a)

    low_needs : u.low < n → R (get_or stack u.low 0) q ≡ true
    low_needs h = go u.met.is
      where
        go : (u.low ≡ n) ⊎ ((x : ℕ) × (mark square w q x ≡ true) × (mark stacked w 0 x ≡ true) × (get_or place x 0 ≡ u.low)) → R (get_or stack u.low 0) q ≡ true
        go (inl e) = absurd (omega arith)
        go (inr (x, a, s, e)) =
            let at : get_or stack u.low 0 ≡ x = ap (λ (j : ℕ). get_or stack j 0) (sym e) ∙ (g.off x s).1 in
            subst (λ (y : ℕ). R y q ≡ true) (sym at)
            (needed_of square mask w x q (g.fresh_in q unmet) a (subst (λ (y : ℕ). mark mask w 0 y ≡ true) at (g.stack_in u.low h)))

    low_within : u.low ≤ n
    low_within = go u.met.is
      where
        go : (u.low ≡ n) ⊎ ((x : ℕ) × (mark square w q x ≡ true) × (mark stacked w 0 x ≡ true) × (get_or place x 0 ≡ u.low)) → u.low ≤ n
        go (inl e) = omega arith
        go (inr (x, a, s, e)) = omega (arith, (g.off x s).0)

    -- where nobody on the stack needs q, it starts a class
    own_start : u.low ≡ n → (b < b') × (get_or starts' b 0 ≡ n)
    own_start e = (go (dec_lt b b'), u.start_put.own)
      where
        go : Dec (b < b') → b < b'
        go (yes h) = h
        go (no h) = absurd (omega (arith, u.cut.gone b (omega arith) (omega arith), u.start_put.own))

    -- ---- who needs whom

    to_q : (i j : ℕ) → i < n → u.low ≤ j → u.low < n → OneClass starts' b' i j → NeedsOrIs R items (get_or stack i 0) q
    to_q i j h l a o = reach_trans R items (get_or stack i 0) (get_or stack u.low 0) q (go (dec_lt i u.low)) (reach_step R items (get_or stack u.low 0) q q_item (low_needs a))
      where
        go : Dec (i < u.low) → NeedsOrIs R items (get_or stack i 0) (get_or stack u.low 0)
        go (no c) = g.down u.low i (omega arith) h
        go (yes c) = g.up i u.low (omega arith) a (was_one i u.low (omega arith) (λ k d e. omega (arith, o k d e)))

    of_q : (i : ℕ) → i < n → NeedsOrIs R items q (get_or stack i 0)
    of_q i h = go from
      where
        t : ℕ
        t = get_or path (p - 1) 0

        within : 0 < p → t < n
        within a = g.steps.under (p - 1) (omega arith)

        below : 0 < p → Dec (i < t) → NeedsOrIs R items (get_or stack t 0) (get_or stack i 0)
        below a (yes c) = g.down i t (omega arith) (within a)
        below a (no c) = g.up t i (omega arith) h (λ k d e. absurd (omega (arith, (start_low k d).0)))

        go : (p ≡ 0) ⊎ (R q (get_or stack t 0) ≡ true) → NeedsOrIs R items q (get_or stack i 0)
        go (inl e) = absurd (omega (arith, (none_left e).0))
        go (inr r) =
            let a = (start_low 0 (g.bottom (omega arith)).0).1 in
            reach_trans R items q (get_or stack t 0) (get_or stack i 0) (reach_step R items q (get_or stack t 0) (stack_item t (within a)) r) (below a (dec_lt i t))

    down' : (i j : ℕ) → i ≤ j → j < n + 1 → NeedsOrIs R items (get_or stack' j 0) (get_or stack' i 0)
    down' i j h l = go (dec_lt j n) (dec_lt i n)
      where
        go : Dec (j < n) → Dec (i < n) → NeedsOrIs R items (get_or stack' j 0) (get_or stack' i 0)
        go (yes c) (yes d) = rw (old i d, old j c) (g.down i j h c)
        go (yes c) (no d) = absurd (omega arith)
        go (no c) (yes d) = rw (old i d, new j c l) (of_q i d)
        go (no c) (no d) = rw (new i d (omega arith), new j c l) (inl refl)

    up' : (i j : ℕ) → i ≤ j → j < n + 1 → OneClass starts' b' i j → NeedsOrIs R items (get_or stack' i 0) (get_or stack' j 0)
    up' i j h l o = go (dec_lt j n) (dec_lt i n) (dec_lt j u.low)
      where
        -- q does not start a class
        joined : i < n → ¬ (j < n) → u.low < n
        joined d c = go (ℕ_discrete u.low n)
          where
            go : Dec (u.low ≡ n) → u.low < n
            go (no e) = omega (arith, low_within)
            go (yes e) = let s = own_start e in absurd (omega (arith, o b s.0 (omega (arith, s.1)), s.1))

        go : Dec (j < n) → Dec (i < n) → Dec (j < u.low) → NeedsOrIs R items (get_or stack' i 0) (get_or stack' j 0)
        go (yes c) (no d) _ = absurd (omega arith)
        go (yes c) (yes d) (yes e) = rw (old i d, old j c) (g.up i j h c (was_one i j (omega arith) o))
        go (yes c) (yes d) (no e) =
            rw (old i d, old j c) (reach_trans R items (get_or stack i 0) q (get_or stack j 0) (to_q i j d (omega arith) (omega arith) o) (of_q j c))
        go (no c) (yes d) _ = rw (old i d, new j c l) (to_q i j d (omega (arith, low_within)) (joined d c) o)
        go (no c) (no d) _ = rw (new i d (omega arith), new j c l) (inl refl)

    joins' : (j i : ℕ) → j < i → i < n + 1 → R (get_or stack' j 0) (get_or stack' i 0) ≡ true → OneClass starts' b' j i
    joins' j i h l r = go (dec_lt i n)
      where
        go : Dec (i < n) → OneClass starts' b' j i
        go (yes c) k a e = at (dec_lt k b)
          where
            at : Dec (k < b) → i < get_or starts' k 0
            at (yes d) =
                let r₀ : R (get_or stack j 0) (get_or stack i 0) ≡ true = sym (rw (old j (omega arith), old i c)) ∙ r in
                omega (arith, g.joins j i h c r₀ k d (omega (arith, starts_old k d)), starts_old k d)
            at (no d) =
                let z : k ≡ b = omega (arith, u.cut.fewer) in
                omega (arith, ap (λ (m : ℕ). get_or starts' m 0) z, u.start_put.own)
        go (no c) k a e =
            let d : j < n = omega arith in
            let r₀ : R (get_or stack j 0) q ≡ true = sym (rw (old j d, new i c l)) ∙ r in
            let lowest = u.met.least (get_or stack j 0) (needed_row square mask w (get_or stack j 0) q r₀) (g.on j d).0 in
            absurd (omega (arith, lowest, (g.on j d).1, kept_low k a))

    bottom' : 0 < n + 1 → (0 < b') × (get_or starts' 0 0 ≡ 0)
    bottom' h = (some (dec_lt 0 b'), first (zero_or_in b))
      where
        first : (b ≡ 0) ⊎ (0 < b) → get_or starts' 0 0 ≡ 0
        first (inr c) = starts_old 0 c ∙ (g.bottom (omega (arith, g.cuts.under 0 c))).1
        first (inl c) = ap (λ (k : ℕ). get_or starts' k 0) (sym c) ∙ u.start_put.own ∙ go (zero_or_in n)
          where
            go : (n ≡ 0) ⊎ (0 < n) → n ≡ 0
            go (inl z) = z
            go (inr z) = absurd (omega (arith, (g.bottom z).0))

        some : Dec (0 < b') → 0 < b'
        some (yes c) = c
        some (no c) = absurd (omega (arith, u.cut.gone 0 (omega arith) (omega arith), first (zero_or_in b)))

    begun' : (k : ℕ) → k < b' → Among path' (p + 1) (get_or starts' k 0)
    begun' k h = go (dec_lt k b)
      where
        go : Dec (k < b) → Among path' (p + 1) (get_or starts' k 0)
        go (yes c) =
            let a = g.begun k c in
            (a.0, omega (arith, a.1), u.path_put.others a.0 (λ e. omega (arith, a.1)) ∙ a.2 ∙ sym (starts_old k c))
        go (no c) =
            let z : k ≡ b = omega (arith, u.cut.fewer) in
            (p, omega arith, u.path_put.own ∙ sym (ap (λ (m : ℕ). get_or starts' m 0) z ∙ u.start_put.own))

    searched' : (i : ℕ) → i < n + 1 → (Among path' (p + 1) i → ⊥) → (x : ℕ) → mark fresh' w 0 x ≡ true → R x (get_or stack' i 0) ≡ false
    searched' i h off x m = go (dec_lt i n)
      where
        go : Dec (i < n) → R x (get_or stack' i 0) ≡ false
        go (yes c) =
            ap (R x) (old i c)
            ∙ g.searched i c (λ (l, a, e). off (l, omega arith, u.path_put.others l (λ z. omega arith) ∙ e)) x (still_fresh x m).0
        go (no c) = let z : n ≡ i = omega arith in absurd (off (p, omega arith, u.path_put.own ∙ z))

    fewer_fresh : fresh_count items fresh' w < fresh_count items fresh w
    fewer_fresh = tally_lt (mark fresh' w 0) (mark fresh w 0) items (λ x _ m. (still_fresh x m).0) q q_item u.dropped.gone unmet

    search_push : Search items square mask fresh' stacked' stack' place' starts' path' w (n + 1) b' (p + 1)
    search_push = record {
      fresh_in = λ x m. g.fresh_in x (still_fresh x m).0;
      stack_in = λ i h. stack_in i h (dec_lt i n);
      apart = λ x m. let f = still_fresh x m in not_stacked x f.1 (g.apart x f.0);
      on = λ i h. on i h (dec_lt i n);
      off = λ x m. off x (u.added.only x m) (ℕ_discrete x q);
      down = down';
      up = up';
      joins = joins';
      bottom = bottom';
      cuts = starts_left;
      steps = positions_push path path' p n u.path_put g.steps;
      begun = begun';
      searched = searched';
      closed = closed;
      room = omega (arith, fewer_fresh, g.room);
    }
      where
        stack_in : (i : ℕ) → i < n + 1 → Dec (i < n) → mark mask w 0 (get_or stack' i 0) ≡ true
        stack_in i h (yes c) = ap (mark mask w 0) (old i c) ∙ g.stack_in i c
        stack_in i h (no c) = ap (mark mask w 0) (new i c h) ∙ g.fresh_in q unmet

        on : (i : ℕ) → i < n + 1 → Dec (i < n) → (mark stacked' w 0 (get_or stack' i 0) ≡ true) × (get_or place' (get_or stack' i 0) 0 ≡ i)
        on i h (yes c) =
            let o = g.on i c in
            rw (old i c) (
              u.added.kept (get_or stack i 0) o.0,
              u.place_put.others (get_or stack i 0) (λ e. both_ways (mark stacked w 0 q) (sym (ap (mark stacked w 0) e) ∙ o.0) (g.apart q unmet)) ∙ o.1,
            )
        on i h (no c) = let z : n ≡ i = omega arith in rw (new i c h) (q_stacked, u.place_put.own ∙ z)

        off : (x : ℕ) → (mark stacked w 0 x ≡ true) ⊎ (x ≡ q) → Dec (x ≡ q) → (get_or place' x 0 < n + 1) × (get_or stack' (get_or place' x 0) 0 ≡ x)
        off x _ (yes e) =
            let z : get_or place' x 0 ≡ n = ap (λ (y : ℕ). get_or place' y 0) e ∙ u.place_put.own in
            (omega arith, ap (λ (i : ℕ). get_or stack' i 0) z ∙ u.stack_put.own ∙ sym e)
        off x (inr e) (no d) = absurd (d e)
        off x (inl m) (no d) =
            let o = g.off x m in
            let z : get_or place' x 0 ≡ get_or place x 0 = u.place_put.others x d in
            (omega (arith, o.0), ap (λ (i : ℕ). get_or stack' i 0) z ∙ old (get_or place x 0) o.0 ∙ o.1)

        closed : (x a : ℕ) → R x a ≡ true → mark fresh' w 0 a ≡ false → mark stacked' w 0 a ≡ false → (mark fresh' w 0 x ≡ false) × (mark stacked' w 0 x ≡ false)
        closed x a r f s =
            let o = before a f s in
            let c = g.closed x a r o.0 o.1 in
            (not_fresh x c.0, not_stacked x (λ e. both_ways (mark fresh w 0 x) (ap (mark fresh w 0) e ∙ unmet) c.0) c.1)

    pub push_turn : (lead : List ℕ) → Settled items square mask fresh stacked lead w
        → Search items square mask fresh' stacked' stack' place' starts' path' w (n + 1) b' (p + 1) × Settled items square mask fresh' stacked' lead w
        × (fresh_count items fresh' w < fresh_count items fresh w) × Kept fresh fresh' w
    push_turn lead s = (search_push, λ x m f t. let o = before x f t in s x m o.0 o.1, fewer_fresh, not_fresh)

  -- ---- the top of the path has no fresh needers left

  module _ {s : ℕ} (some : 0 < p) (top : s ≡ get_or path (p - 1) 0) (none : (x : ℕ) → mark fresh w 0 x ≡ true → needed square mask w x (get_or stack s 0) ≡ false) where
    s_within : s < n
    s_within = omega (arith, g.steps.under (p - 1) (omega arith))

    -- its class goes on below it
    pub search_back : (s ≡ get_or starts (b - 1) 0 → ⊥) → Search items square mask fresh stacked stack place starts path w n b (p - 1)
    search_back differ = record {
      fresh_in = g.fresh_in;
      stack_in = g.stack_in;
      apart = g.apart;
      on = g.on;
      off = g.off;
      down = g.down;
      up = g.up;
      joins = g.joins;
      bottom = g.bottom;
      cuts = g.cuts;
      steps = positions_fewer path p n (p - 1) (omega arith) g.steps;
      begun = λ k h. let a = g.begun k h in (a.0, earlier k h a.0 a.1 a.2, a.2);
      searched = λ i h off. searched i h off (ℕ_discrete i s);
      closed = g.closed;
      room = g.room;
    }
      where
        earlier : (k : ℕ) → k < b → (l : ℕ) → l < p → get_or path l 0 ≡ get_or starts k 0 → l < p - 1
        earlier k h l a e = go (ℕ_discrete l (p - 1))
          where
            go : Dec (l ≡ p - 1) → l < p - 1
            go (no z) = omega arith
            go (yes z) =
                let y : get_or path l 0 ≡ get_or path (p - 1) 0 = ap (λ (i : ℕ). get_or path i 0) z in
                let h₁ = positions_top starts b n g.cuts k h in
                let h₂ = (start_low (b - 1) (omega arith)).0 in
                absurd (differ (omega arith))

        searched : (i : ℕ) → i < n → (Among path (p - 1) i → ⊥) → Dec (i ≡ s) → (x : ℕ) → mark fresh w 0 x ≡ true → needed square mask w x (get_or stack i 0) ≡ false
        searched i h off (yes e) x m = ap (λ (j : ℕ). needed square mask w x (get_or stack j 0)) e ∙ none x m
        searched i h off (no d) x m = g.searched i h (λ (l, a, e). go l a e (ℕ_discrete l (p - 1))) x m
          where
            go : (l : ℕ) → l < p → get_or path l 0 ≡ i → Dec (l ≡ p - 1) → ⊥
            go l a e (yes z) = let y : get_or path l 0 ≡ get_or path (p - 1) 0 = ap (λ (j : ℕ). get_or path j 0) z in d (omega arith)
            go l a e (no z) = off (l, omega arith, e)

    -- ---- it starts its class: a block is found

    module _ {stacked' lead lead' : List ℕ} {least : ℕ} (same : s ≡ get_or starts (b - 1) 0) (small : Smallest stack s n least)
        (left : HasLeft stack stacked stacked' lead lead' w s n least) where
      abbrev N : ℕ → ℕ → Bool
      N = needed square mask w

      starts_some : 0 < b
      starts_some = some_start some

      -- whoever needs one of the class is not fresh, and on the stack only in the class
      needer : (x i : ℕ) → s ≤ i → i < n → N x (get_or stack i 0) ≡ true → (mark fresh w 0 x ≡ false) × ((mark stacked w 0 x ≡ false) ⊎ StandsFrom stack s n x)
      needer x i l h r = (not_so (mark fresh w 0 x) (λ m. both_ways (N x (get_or stack i 0)) r (quiet m (ℕ_discrete i s))), at (so_or_not (mark stacked w 0 x)))
        where
          quiet : mark fresh w 0 x ≡ true → Dec (i ≡ s) → N x (get_or stack i 0) ≡ false
          quiet m (yes e) = ap (λ (j : ℕ). N x (get_or stack j 0)) e ∙ none x m
          quiet m (no e) = g.searched i h (λ (k, a, f). omega (arith, positions_top path p n g.steps k a)) x m

          at : (mark stacked w 0 x ≡ true) ⊎ (mark stacked w 0 x ≡ false) → (mark stacked w 0 x ≡ false) ⊎ StandsFrom stack s n x
          at (inr e) = inl e
          at (inl m) = go (dec_lt (get_or place x 0) s)
            where
              o : (get_or place x 0 < n) × (get_or stack (get_or place x 0) 0 ≡ x)
              o = g.off x m

              go : Dec (get_or place x 0 < s) → (mark stacked w 0 x ≡ false) ⊎ StandsFrom stack s n x
              go (no c) = inr (get_or place x 0, omega arith, o.0, o.1)
              go (yes c) =
                  let r₀ : N (get_or stack (get_or place x 0) 0) (get_or stack i 0) ≡ true = rw o.1 r in
                  absurd (omega (arith, g.joins (get_or place x 0) i (omega arith) h r₀ (b - 1) (omega (arith, starts_some)) (omega arith)))

      not_from : (i : ℕ) → i < s → StandsFrom stack s n (get_or stack i 0) → ⊥
      not_from i h (k, l, a, e) = once i k (omega arith) a (sym e)

      from_stacked : (x : ℕ) → StandsFrom stack s n x → mark stacked w 0 x ≡ true
      from_stacked x (k, l, a, e) = subst (λ (y : ℕ). mark stacked w 0 y ≡ true) e (g.on k a).0

      still_off : (x : ℕ) → mark stacked w 0 x ≡ false → mark stacked' w 0 x ≡ false
      still_off x e = (left.others x (λ f. both_ways (mark stacked w 0 x) (from_stacked x f) e)).0 ∙ e

      -- who has left the stack is of the class
      gone_from : (x : ℕ) → mark stacked w 0 x ≡ true → mark stacked' w 0 x ≡ false → StandsFrom stack s n x
      gone_from x m e = go (dec_lt (get_or place x 0) s)
        where
          o : (get_or place x 0 < n) × (get_or stack (get_or place x 0) 0 ≡ x)
          o = g.off x m

          go : Dec (get_or place x 0 < s) → StandsFrom stack s n x
          go (no c) = (get_or place x 0, omega arith, o.0, o.1)
          go (yes c) =
              let f : StandsFrom stack s n x → ⊥ = λ f. not_from (get_or place x 0) c (subst (λ (y : ℕ). StandsFrom stack s n y) (sym o.1) f) in
              both_ways (mark stacked' w 0 x) ((left.others x f).0 ∙ m) e

      search_found : Search items square mask fresh stacked' stack place starts path w s (b - 1) (p - 1)
      search_found = record {
        fresh_in = g.fresh_in;
        stack_in = λ i h. g.stack_in i (omega (arith, s_within));
        apart = λ x m. still_off x (g.apart x m);
        on = λ i h. let o = g.on i (omega (arith, s_within)) in ((left.others (get_or stack i 0) (not_from i h)).0 ∙ o.0, o.1);
        off = λ x m. off x m (so_or_not (mark stacked w 0 x));
        down = λ i j h l. g.down i j h (omega (arith, s_within));
        up = λ i j h l o. g.up i j h (omega (arith, s_within)) (λ k a e. up i j l o k a e (ℕ_discrete k (b - 1)));
        joins = λ j i h l r k a e. g.joins j i h (omega (arith, s_within)) r k (omega arith) e;
        bottom = λ h. let c = g.bottom (omega (arith, s_within)) in (bottom h c.1 (ℕ_discrete b 1), c.1);
        cuts = positions_cut starts b n s starts_some same g.cuts;
        steps = positions_cut path p n s some top g.steps;
        begun = λ k h. let a = g.begun k (omega arith) in (a.0, begun k h a.0 a.1 a.2, a.2);
        searched = λ i h off. g.searched i (omega (arith, s_within)) (λ (l, a, e). off (l, begun_at i h l a e, e));
        closed = λ x a r f t. closed x a r f t (so_or_not (mark stacked w 0 a));
        room = omega (arith, g.room, s_within);
      }
        where
          off : (x : ℕ) → mark stacked' w 0 x ≡ true → (mark stacked w 0 x ≡ true) ⊎ (mark stacked w 0 x ≡ false) → (get_or place x 0 < s) × (get_or stack (get_or place x 0) 0 ≡ x)
          off x m (inr e) = both_ways (mark stacked' w 0 x) m (still_off x e)
          off x m (inl t) = (go (dec_lt (get_or place x 0) s), o.1)
            where
              o : (get_or place x 0 < n) × (get_or stack (get_or place x 0) 0 ≡ x)
              o = g.off x t

              go : Dec (get_or place x 0 < s) → get_or place x 0 < s
              go (yes c) = c
              go (no c) = both_ways (mark stacked' w 0 x) m (left.gone x (get_or place x 0, omega arith, o.0, o.1))

          up : (i j : ℕ) → j < s → OneClass starts (b - 1) i j → (k : ℕ) → k < b → i < get_or starts k 0 → Dec (k ≡ b - 1) → j < get_or starts k 0
          up i j l o k a e (no d) = o k (omega arith) e
          up i j l o k a e (yes d) = omega (arith, ap (λ (m : ℕ). get_or starts m 0) d)

          bottom : 0 < s → get_or starts 0 0 ≡ 0 → Dec (b ≡ 1) → 0 < b - 1
          bottom h z (no d) = omega (arith, starts_some)
          bottom h z (yes d) =
              let e : b - 1 ≡ 0 = omega arith in
              absurd (omega (arith, ap (λ (m : ℕ). get_or starts m 0) e))

          -- a position below s is not the last of the path
          begun_at : (i : ℕ) → i < s → (l : ℕ) → l < p → get_or path l 0 ≡ i → l < p - 1
          begun_at i h l a e = go (ℕ_discrete l (p - 1))
            where
              go : Dec (l ≡ p - 1) → l < p - 1
              go (no d) = omega arith
              go (yes d) = absurd (omega (arith, ap (λ (m : ℕ). get_or path m 0) d))

          begun : (k : ℕ) → k < b - 1 → (l : ℕ) → l < p → get_or path l 0 ≡ get_or starts k 0 → l < p - 1
          begun k h l a e = begun_at (get_or starts k 0) (omega (arith, g.cuts.upward k (b - 1) h (omega (arith, starts_some)))) l a e

          closed : (x a : ℕ) → N x a ≡ true → mark fresh w 0 a ≡ false → mark stacked' w 0 a ≡ false → (mark stacked w 0 a ≡ true) ⊎ (mark stacked w 0 a ≡ false)
              → (mark fresh w 0 x ≡ false) × (mark stacked' w 0 x ≡ false)
          closed x a r f t (inr e) = let c = g.closed x a r f e in (c.0, still_off x c.1)
          closed x a r f t (inl m) =
              let (k, l, h, e) = gone_from a m t in
              let c = needer x k l h (subst (λ (y : ℕ). N x y ≡ true) (sym e) r) in
              (c.0, go c.1)
            where
              go : (mark stacked w 0 x ≡ false) ⊎ StandsFrom stack s n x → mark stacked' w 0 x ≡ false
              go (inl e) = still_off x e
              go (inr e) = left.gone x e

      -- ---- the class is a whole block, led by its smallest label

      class_reach : (i j : ℕ) → s ≤ i → i < n → s ≤ j → j < n → NeedsOrIs N items (get_or stack i 0) (get_or stack j 0)
      class_reach i j l h k u = go (dec_lt i j)
        where
          go : Dec (i < j) → NeedsOrIs N items (get_or stack i 0) (get_or stack j 0)
          go (no c) = g.down j i (omega arith) h
          go (yes c) = g.up i j (omega arith) u (λ m a e. absurd (omega (arith, positions_top starts b n g.cuts m a)))

      class_tog : (x y : ℕ) → StandsFrom stack s n x → StandsFrom stack s n y → Tog N items x y
      class_tog x y (i, l, h, e) (j, k, u, f) =
          subst (λ (z : ℕ). Tog N items z y) e (subst (λ (z : ℕ). Tog N items (get_or stack i 0) z) f
          (reach_tog N items (get_or stack i 0) (get_or stack j 0) (class_reach i j l h k u) (class_reach j i k u l h)))

      class_item : (x : ℕ) → StandsFrom stack s n x → x ∈ items
      class_item x f = stacked_item x (from_stacked x f)

      abbrev A : ℕ → Type 0
      A x = (mark fresh w 0 x ≡ false) × (mark stacked w 0 x ≡ false)

      whole : (c x : ℕ) → x ∈ items → StandsFrom stack s n c → Tog N items c x → StandsFrom stack s n x
      whole c x m f t =
          block_found N items A (StandsFrom stack s n) (λ y a my ma r (e, h). g.closed y a r e h) closed
          (λ y (e, h) f. both_ways (mark stacked w 0 y) (from_stacked y f) h) c x (class_item c f) m f t
        where
          closed : (y c : ℕ) → y ∈ items → c ∈ items → N y c ≡ true → StandsFrom stack s n c → A y ⊎ StandsFrom stack s n y
          closed y c my mc r (k, l, h, e) = go c₁.1
            where
              c₁ : (mark fresh w 0 y ≡ false) × ((mark stacked w 0 y ≡ false) ⊎ StandsFrom stack s n y)
              c₁ = needer y k l h (subst (λ (z : ℕ). N y z ≡ true) (sym e) r)

              go : (mark stacked w 0 y ≡ false) ⊎ StandsFrom stack s n y → A y ⊎ StandsFrom stack s n y
              go (inl f) = inl (c₁.0, f)
              go (inr f) = inr f

      class_lead : (x : ℕ) → StandsFrom stack s n x → IsLead N items x least
      class_lead x f = (
        block_in N items x least (class_item least small.is) (class_tog x least f small.is),
        ap not (any_refute (λ q. ltb q least) (block_of N items least) (λ y i. not_so (ltb y least) (λ t. lower y (ltb-true y least t) (in_block_lem N items least y i)))),
      )
        where
          lower : (y : ℕ) → y < least → (y ∈ items) × Tog N items least y → ⊥
          lower y h (m, t) = let (k, l, u, e) = whole least y m small.is t in omega (arith, small.least_of k l u)

      pub found_turn : Settled items square mask fresh stacked lead w
          → Search items square mask fresh stacked' stack place starts path w s (b - 1) (p - 1) × Settled items square mask fresh stacked' lead' w
      found_turn old = (search_found, λ x m f t. go x m f t (so_or_not (mark stacked w 0 x)))
        where
          go : (x : ℕ) → x ∈ items → mark fresh w 0 x ≡ false → mark stacked' w 0 x ≡ false → (mark stacked w 0 x ≡ true) ⊎ (mark stacked w 0 x ≡ false)
              → IsLead N items x (get_or lead' x 0)
          go x m f t (inl e) = let c = gone_from x e t in subst (λ (y : ℕ). IsLead N items x y) (sym (left.led x c)) (class_lead x c)
          go x m f t (inr e) =
              subst (λ (y : ℕ). IsLead N items x y) (sym (left.others x (λ c. both_ways (mark stacked w 0 x) (from_stacked x c) e)).1) (old x m f e)
