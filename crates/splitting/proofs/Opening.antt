-- The blocks of several of a Group opened one after the other.
use mathlib.Core.Path.{◌≡◌, refl, sym, ap, ◌∙◌, subst}
use mathlib.Core.Logic.{◌⊎◌, inl, inr}
use mathlib.Core.List.{List, [], ◌∷◌}
use mathlib.Core.Bool.{Bool, true, false, cond, not, ◌&&◌}
use Prim.Native.Nat.{ℕ, ◌+◌, ◌≤◌, ◌<◌}
use native.Mathlib.Omega.{arith}
use native.Mathlib.Decide.{ℕ_discrete}
use lib.Dec.{eqb, ltb}
use lib.IntN.{ℤ}
use lib.ListN.{length, get_or, take, drop, take-append-drop}
use borrow.Author.Tests.{eqb-true, eqb-false, eq-eqb, ne_eqb, not-true, ltb-false}
use Rattle.cells.specs.Table.{is_definition}
use Rattle.cells.specs.Accepted.{Accepted}
use Rattle.order.specs.LabelLists.{one, count, ◌∈◌, mem, filter, any}
use Rattle.order.specs.Blocks.{together, block_of, several, is_leader, leaders}
use Rattle.order.specs.Order.{is_member_of, members, Within, within, needs, member_block, several_plan}
use Rattle.order.proofs.Tests.{both_ways, so_or_not, not_so, and_left, and_right, and_intro}
use Rattle.order.proofs.Lists.{count_append, in_here, in_there, in_cons, in_filter, in_filter_of, any_true, any_none, any_intro, mem_of, of_mem}
use Rattle.order.proofs.Tables.{def_label, pos_of, member_of}
use Rattle.order.proofs.Tree.{within_sound}
use Rattle.order.proofs.Alike.{same_test, filter_same}
use Rattle.order.proofs.Blocks.{Tog, tog_refl, tog_sym, in_block_lem, block_in, lead_of}
use Rattle.placing.specs.UnmetCounts.{Rising}
use Rattle.placing.proofs.Lists.{count_more, in_more, rising_once}
use Rattle.blocks.specs.Found.{Led}
use Rattle.blocks.specs.Merged.{heads}
use Rattle.blocks.proofs.Merging.{led_item, led_tog, led_is}
use Rattle.groups.specs.Members.{Chain, Relinked}
use Rattle.groups.specs.Opening.{InOrUnder, MemberChains, ChainsCleared}
use Rattle.groups.proofs.Chains.{rising_part, rising_filter, chain_same}
use Rattle.groups.specs.Opened.{expanded_block, tangled_members, Opened, Progress}
use Rattle.splitting.specs.Leaders.{LedMembers, BlockChains, leads_several, LeaderChains}
use Rattle.groups.proofs.Expanded.{many_all, Held, held, plan_held, held_apart}
use Rattle.groups.proofs.Progress.{under_free, within_le, member_above}

-- ---- chains cleared one after the other

module _ (t : List ℤ) where
  inside_or_not : (block : List ℕ) (h : ℕ) → InOrUnder t block h ⊎ (InOrUnder t block h → ⊥)
  inside_or_not block h = go (so_or_not (is_definition t h)) (so_or_not (any (λ p. within t p h) block))
    where
      go : (is_definition t h ≡ true) ⊎ (is_definition t h ≡ false) → (any (λ p. within t p h) block ≡ true) ⊎ (any (λ p. within t p h) block ≡ false)
          → InOrUnder t block h ⊎ (InOrUnder t block h → ⊥)
      go (inl d) (inl a) = inl (d, a)
      go (inr d) _ = inr (λ i. both_ways (is_definition t h) i.0 d)
      go (inl d) (inr a) = inr (λ i. both_ways (any (λ p. within t p h) block) i.1 a)

  cleared_more : (a b c s s₁ s₂ : List ℕ) → ChainsCleared t a s s₁ → ChainsCleared t b s₁ s₂ → ((h : ℕ) → InOrUnder t c h → InOrUnder t a h ⊎ InOrUnder t b h)
      → ((h : ℕ) → InOrUnder t a h → InOrUnder t c h)
      → ((h : ℕ) → InOrUnder t b h → InOrUnder t c h)
      → ChainsCleared t c s s₂
  cleared_more a b c s s₁ s₂ ca cb there left right = record {
    gone = λ h i. gone h (there h i) (inside_or_not b h);
    others = λ y f. cb.others y (λ i. f (right y i)) ∙ ca.others y (λ i. f (left y i));
  }
    where
      gone : (h : ℕ) → InOrUnder t a h ⊎ InOrUnder t b h → InOrUnder t b h ⊎ (InOrUnder t b h → ⊥) → get_or s₂ h 0 ≡ 0
      gone h _ (inl i) = cb.gone h i
      gone h (inl i) (inr f) = cb.others h f ∙ ca.gone h i
      gone h (inr i) (inr f) = absurd (f i)

  inside_part : (a c : List ℕ) → ((p : ℕ) → p ∈ a → p ∈ c) → (h : ℕ) → InOrUnder t a h → InOrUnder t c h
  inside_part a c f h (d, e) = let w = any_true (λ p. within t p h) a e in (d, any_intro (λ p. within t p h) c w.0 (f w.0 w.1) w.2)

-- ---- the first of a list that goes upward

first_is : (x : ℕ) (l : List ℕ) → Rising l → x ∈ l → ((y : ℕ) → y ∈ l → y < x → ⊥) → (rest : List ℕ) × (l ≡ x ∷ rest)
first_is x [] r m low = absurd (omega arith)
first_is x (c ∷ l) r m low = go (in_cons x c l m)
  where
    go : (x ≡ c) ⊎ (x ∈ l) → (rest : List ℕ) × (c ∷ l ≡ x ∷ rest)
    go (inl e) = (l, ap (λ (z : ℕ). z ∷ l) (sym e))
    go (inr i) = absurd (low c (in_here c l) (r.0 x i))

-- ---- the state after the blocks of some leaders

-- p is in a block of several whose leader is done
abbrev pub opens : List ℤ → ℕ → ℕ → List ℕ → List ℕ → ℕ → Bool
opens t n g lead done p = several (needs t n) (members t n g) p && mem (get_or lead p 0) done

-- the blocks of several that are led by one of `done` are opened, and stand in the chains of their leaders
pub record Opening (t : List ℤ) (n g : ℕ) (lead done next₀ next links : List ℕ) : Type 0 where
  pub chains : (b : ℕ) → b ∈ leaders (needs t n) (members t n g) → Chain n links (get_or links b 0) (cond (mem b done) (expanded_block t n g b) (member_block t n g b))
  pub cleared : ChainsCleared t (filter (opens t n g lead done) (members t n g)) next₀ next

pub block_chains_of : (t : List ℤ) (n g : ℕ) (items lead links : List ℕ) → LedMembers t n g items lead → BlockChains n items lead links
    → (b : ℕ) → b ∈ leaders (needs t n) (members t n g) → Chain n links (get_or links b 0) (member_block t n g b)
block_chains_of t n g items lead links m c =
    subst (λ (l : List ℕ). Led (needs t n) l lead → (b : ℕ) → b ∈ leaders (needs t n) l → Chain n links (get_or links b 0) (block_of (needs t n) l b))
    m.are (c.chain (needs t n)) m.led

module _ (t : List ℤ) (n : ℕ) (ok : Accepted t n) (g : ℕ) (lead next₀ : List ℕ) (led : Led (needs t n) (members t n g) lead) where
  abbrev R : ℕ → ℕ → Bool
  R = needs t n

  abbrev items : List ℕ
  items = members t n g

  label_of : (x : ℕ) → x ∈ members t n g → (1 ≤ x) × (x ≤ n)
  label_of x m = def_label t n ok x (member_of t n ok g x m).0

  pub opening_none : (links : List ℕ) → ((b : ℕ) → b ∈ leaders R items → Chain n links (get_or links b 0) (member_block t n g b)) → Opening t n g lead [] next₀ next₀ links
  opening_none links c = record {
    chains = λ b m. c b m;
    cleared = record {
      gone = λ h i. none h i;
      others = λ y f. refl;
    };
  }
    where
      none : (h : ℕ) → InOrUnder t (filter (opens t n g lead []) (members t n g)) h → get_or next₀ h 0 ≡ 0
      none h i =
          let w = any_true (λ p. within t p h) (filter (opens t n g lead []) (members t n g)) i.1 in
          let f = in_filter (opens t n g lead []) w.0 (members t n g) w.1 in
          both_ways false (and_right (several R items w.0) false f.1) refl

  pub opening_all : (done next links : List ℕ) → ((x : ℕ) → x ∈ members t n g → x ∈ done) → Opening t n g lead done next₀ next links
      → ChainsCleared t (tangled_members t n g) next₀ next × LeaderChains t n g links
  opening_all done next links all o = (
    subst (λ (l : List ℕ). ChainsCleared t l next₀ next) (filter_same (opens t n g lead done) (several R items) (members t n g)
        (λ p m. same_test (opens t n g lead done p) (several R items p) (λ h. and_left (several R items p) (mem (get_or lead p 0) done) h)
        (λ h. and_intro (several R items p) (mem (get_or lead p 0) done) h (mem_of (get_or lead p 0) done (all (get_or lead p 0) (led_item R items lead led p m)))))) o.cleared,
    record {
      chain = λ b m.
          subst (λ (e : Bool). Chain n links (get_or links b 0) (cond e (expanded_block t n g b) (member_block t n g b))) (mem_of b done (all b (lead_of R items b m).0)) (o.chains b m);
    },
  )

  -- ---- one more

  module _ (L : List ℕ) (is : L ≡ members t n g) (i x : ℕ) (hi : i < length L) (at : x ≡ get_or L i 0) (next links : List ℕ) (o : Opening t n g lead (take i L) next₀ next links) where
    rising : Rising L
    rising = subst Rising (sym is) (rising_filter (is_member_of t g) 1 n)

    pub here : x ∈ members t n g
    here = subst (λ (l : List ℕ). x ∈ l) is (omega (arith, count_more x L i hi, ap one (eq-eqb x (get_or L i 0) at), in_prefix x (i + 1)))
      where
        in_prefix : (y k : ℕ) → count y (take k L) ≤ count y L
        in_prefix y k = omega (arith, count_append y (take k L) (drop k L), ap (count y) (take-append-drop k L))

    -- it is not done yet
    fresh : x ∈ take i L → ⊥
    fresh m = omega (
      arith,
      rising_once L rising x,
      count_more x L i hi,
      ap one (eq-eqb x (get_or L i 0) at),
      count_append x (take (i + 1) L) (drop (i + 1) L),
      ap (count x) (take-append-drop (i + 1) L),
    )

    more : (y : ℕ) → (y ≡ x → ⊥) → mem y (take (i + 1) L) ≡ mem y (take i L)
    more y d = same_test (mem y (take (i + 1) L)) (mem y (take i L)) (λ h. mem_of y (take i L) (go (in_more y L i hi (of_mem y (take (i + 1) L) h))))
        (λ h. mem_of y (take (i + 1) L) (omega (arith, of_mem y (take i L) h, count_more y L i hi)))
      where
        go : (y ∈ take i L) ⊎ (y ≡ get_or L i 0) → y ∈ take i L
        go (inl m) = m
        go (inr e) = absurd (d (e ∙ sym at))

    added : mem x (take (i + 1) L) ≡ true
    added = mem_of x (take (i + 1) L) (omega (arith, count_more x L i hi, ap one (eq-eqb x (get_or L i 0) at)))

    -- ---- which block has several

    module _ (lx : is_leader R items x ≡ true) where
      leader : x ∈ leaders R items
      leader = in_filter_of (is_leader R items) x (members t n g) here lx

      pub block_chain : Chain n links (get_or links x 0) (member_block t n g x)
      block_chain =
          subst (λ (e : Bool). Chain n links (get_or links x 0) (cond e (expanded_block t n g x) (member_block t n g x))) (not_so (mem x (take i L)) (λ h. fresh (of_mem x (take i L) h)))
          (o.chains x leader)

      block_parts : (rest : List ℕ) × (member_block t n g x ≡ x ∷ rest)
      block_parts = first_is x (member_block t n g x) (rising_part (together R items x) (members t n g) (rising_filter (is_member_of t g) 1 n)) (block_in R items x x here (tog_refl R items x))
          (λ y m l. omega (arith, ltb-false y x (any_none (λ q. ltb q x) (block_of R items x) (not-true (any (λ q. ltb q x) (block_of R items x)) lx) y m)))

      block_rest : Rising (x ∷ block_parts.0)
      block_rest = subst Rising block_parts.1 (rising_part (together R items x) (members t n g) (rising_filter (is_member_of t g) 1 n))

      linked : Chain n links (get_or links (n + x) 0) block_parts.0
      linked = let c : Chain n links (get_or links x 0) (x ∷ block_parts.0) = subst (λ (l : List ℕ). Chain n links (get_or links x 0) l) block_parts.1 block_chain in c.2

      link_several : (get_or links (n + x) 0 ≡ 0 → ⊥) → several R items x ≡ true
      link_several z = go block_parts.0 block_parts.1 block_rest linked
        where
          go : (rest : List ℕ) → member_block t n g x ≡ x ∷ rest → Rising (x ∷ rest) → Chain n links (get_or links (n + x) 0) rest → several R items x ≡ true
          go [] e r c = absurd (z c)
          go (y ∷ l) e r c =
              any_intro (λ q. not (eqb q x)) (member_block t n g x) y (subst (λ (k : List ℕ). y ∈ k) (sym e) (in_there y x (y ∷ l) (in_here y l)))
              (ap not (ne_eqb y x (λ s. omega (arith, r.0 y (in_here y l)))))

      link_single : get_or links (n + x) 0 ≡ 0 → several R items x ≡ false
      link_single z = go block_parts.0 block_parts.1 linked
        where
          go : (rest : List ℕ) → member_block t n g x ≡ x ∷ rest → Chain n links (get_or links (n + x) 0) rest → several R items x ≡ false
          go [] e c = ap (any (λ q. not (eqb q x))) e ∙ rw (eq-eqb x x refl)
          go (y ∷ l) e c = absurd (omega (arith, c.0, c.1))

      single_block : several R items x ≡ false → member_block t n g x ≡ x ∷ []
      single_block s = go block_parts.0 block_parts.1 block_rest
        where
          go : (rest : List ℕ) → member_block t n g x ≡ x ∷ rest → Rising (x ∷ rest) → member_block t n g x ≡ x ∷ []
          go [] e r = e
          go (y ∷ l) e r = both_ways (several R items x)
              (any_intro (λ q. not (eqb q x)) (member_block t n g x) y (subst (λ (k : List ℕ). y ∈ k) (sym e) (in_there y x (y ∷ l) (in_here y l)))
              (ap not (ne_eqb y x (λ z. omega (arith, r.0 y (in_here y l)))))) s

    pub test_opens : leads_several n lead links x ≡ true → (is_leader R items x ≡ true) × (several R items x ≡ true)
    test_opens h =
        let a = eqb-true (get_or lead x 0) x (and_left (heads lead x) (not (eqb (get_or links (n + x) 0) 0)) h) in
        let lx : is_leader R items x ≡ true = subst (λ (z : ℕ). is_leader R items z ≡ true) a (led x here).1 in
        (lx, link_several lx (eqb-false (get_or links (n + x) 0) 0 (not-true (eqb (get_or links (n + x) 0) 0) (and_right (heads lead x) (not (eqb (get_or links (n + x) 0) 0)) h))))

    pub test_leaves : leads_several n lead links x ≡ false → is_leader R items x ≡ true → several R items x ≡ false
    test_leaves h lx = go (so_or_not (eqb (get_or links (n + x) 0) 0))
      where
        go : (eqb (get_or links (n + x) 0) 0 ≡ true) ⊎ (eqb (get_or links (n + x) 0) 0 ≡ false) → several R items x ≡ false
        go (inl e) = link_single lx (eqb-true (get_or links (n + x) 0) 0 e)
        go (inr e) = both_ways (leads_several n lead links x)
            (and_intro (heads lead x) (not (eqb (get_or links (n + x) 0) 0)) (eq-eqb (get_or lead x 0) x (led_is R items lead led x x here lx here (tog_refl R items x))) (ap not e)) h

    -- ---- nothing to open

    pub opening_skip : (is_leader R items x ≡ true → several R items x ≡ false) → Opening t n g lead (take (i + 1) L) next₀ next links
    opening_skip f = record {
      chains = λ b m. chains b m (ℕ_discrete b x);
      cleared = subst (λ (l : List ℕ). ChainsCleared t l next₀ next) (filter_same (opens t n g lead (take i L)) (opens t n g lead (take (i + 1) L)) (members t n g)
          (λ p m. same p m (ℕ_discrete (get_or lead p 0) x))) o.cleared;
    }
      where
        chains : (b : ℕ) → b ∈ leaders R items → Dec (b ≡ x) → Chain n links (get_or links b 0) (cond (mem b (take (i + 1) L)) (expanded_block t n g b) (member_block t n g b))
        chains b m (no e) = subst (λ (z : Bool). Chain n links (get_or links b 0) (cond z (expanded_block t n g b) (member_block t n g b))) (sym (more b e)) (o.chains b m)
        chains b m (yes e) =
            let lx : is_leader R items x ≡ true = subst (λ (z : ℕ). is_leader R items z ≡ true) e (lead_of R items b m).1 in
            let c : Chain n links (get_or links x 0) (x ∷ []) = subst (λ (l : List ℕ). Chain n links (get_or links x 0) l) (single_block lx (f lx)) (block_chain lx) in
            let d : cond (mem x (take (i + 1) L)) (expanded_block t n g x) (member_block t n g x) ≡ x ∷ [] = rw (added, f lx) in
            subst (λ (z : ℕ). Chain n links (get_or links z 0) (cond (mem z (take (i + 1) L)) (expanded_block t n g z) (member_block t n g z))) (sym e)
            (subst (λ (l : List ℕ). Chain n links (get_or links x 0) l) (sym d) c)

        same : (p : ℕ) → p ∈ members t n g → Dec (get_or lead p 0 ≡ x) → opens t n g lead (take i L) p ≡ opens t n g lead (take (i + 1) L) p
        same p m (no e) = ap (λ (z : Bool). several R items p && z) (sym (more (get_or lead p 0) e))
        same p m (yes e) =
            let lx : is_leader R items x ≡ true = subst (λ (z : ℕ). is_leader R items z ≡ true) e (led p m).1 in
            let s : several R items p ≡ false = not_so (several R items p) (λ h. both_ways (several R items x)
            (many_all R items p x m h (subst (λ (z : ℕ). Tog R items p z) e (tog_sym R items (get_or lead p 0) p (led_tog R items lead led p m)))) (f lx)) in
            rw s

    -- ---- a block of several opened

    module _ (lx : is_leader R items x ≡ true) (sx : several R items x ≡ true) where
      done_lead : (p : ℕ) → p ∈ filter (opens t n g lead (take i L)) (members t n g) → (p ∈ members t n g) × (get_or lead p 0 ∈ take i L)
      done_lead p m =
          let f = in_filter (opens t n g lead (take i L)) p (members t n g) m in
          (f.0, of_mem (get_or lead p 0) (take i L) (and_right (several R items p) (mem (get_or lead p 0) (take i L)) f.1))

      -- the chains in and under it are as they were
      pub block_chains : 1 ≤ g → (Opened t n g g → ⊥) → Progress t n g next₀ → MemberChains t n (member_block t n g x) next
      block_chains lo free p h (d, a) =
          subst (λ (q : ℕ). Chain n next q (members t n h)) (sym head)
          (chain_same n next₀ next (get_or next₀ h 0) (members t n h)
          (λ y m. o.cleared.others (n + y) (λ j. omega (arith, def_label t n ok (n + y) j.0, pos_of t n ok y (member_of t n ok h y m).0)))
          (p.rest h (def_label t n ok h d).1 (omega (arith, member_above t n ok g q k.0, within_le t n ok q h u)) (under_free t n ok g q h lo free k.0 u)))
        where
          w : (q : ℕ) × (q ∈ member_block t n g x) × (within t q h ≡ true)
          w = any_true (λ p. within t p h) (member_block t n g x) a

          q : ℕ
          q = w.0

          k : (q ∈ members t n g) × Tog R items x q
          k = in_block_lem R items x q w.1

          u : Within t q h
          u = within_sound t n ok q h w.2

          head : get_or next h 0 ≡ get_or next₀ h 0
          head = o.cleared.others h (λ j.
              let v = any_true (λ p. within t p h) (filter (opens t n g lead (take i L)) (members t n g)) j.1 in
              let f = done_lead v.0 v.1 in
              held_apart t n ok g x (get_or lead v.0 0) h here (led_item R items lead led v.0 f.0) lx (led v.0 f.0).1
              (λ e. fresh (subst (λ (z : ℕ). z ∈ take i L) e f.1)) (q, k.0, k.1, u)
              (v.0, f.0, led_tog R items lead led v.0 f.0, within_sound t n ok v.0 h v.2))

      pub opening_turn : (next' links' : List ℕ) → ChainsCleared t (member_block t n g x) next next' → Relinked n x (several_plan t n g x) links links'
          → Opening t n g lead (take (i + 1) L) next₀ next' links'
      opening_turn next' links' cl re = record {
        chains = λ b m. chains b m (ℕ_discrete b x);
        cleared = cleared_more t (filter (opens t n g lead (take i L)) (members t n g)) (member_block t n g x) (filter (opens t n g lead (take (i + 1) L)) (members t n g)) next₀ next next'
            o.cleared cl there
            (inside_part t (filter (opens t n g lead (take i L)) (members t n g)) (filter (opens t n g lead (take (i + 1) L)) (members t n g)) old)
            (inside_part t (member_block t n g x) (filter (opens t n g lead (take (i + 1) L)) (members t n g)) new);
      }
        where
          old : (p : ℕ) → p ∈ filter (opens t n g lead (take i L)) (members t n g) → p ∈ filter (opens t n g lead (take (i + 1) L)) (members t n g)
          old p m =
              let f = in_filter (opens t n g lead (take i L)) p (members t n g) m in
              in_filter_of (opens t n g lead (take (i + 1) L)) p (members t n g) f.0
              (and_intro (several R items p) (mem (get_or lead p 0) (take (i + 1) L)) (and_left (several R items p) (mem (get_or lead p 0) (take i L)) f.1)
              (mem_of (get_or lead p 0) (take (i + 1) L) (omega (arith, (done_lead p m).1, count_more (get_or lead p 0) L i hi))))

          new : (p : ℕ) → p ∈ member_block t n g x → p ∈ filter (opens t n g lead (take (i + 1) L)) (members t n g)
          new p m =
              let k = in_block_lem R items x p m in
              let e : x ≡ get_or lead p 0 = sym (led_is R items lead led x p here lx k.0 k.1) in
              in_filter_of (opens t n g lead (take (i + 1) L)) p (members t n g) k.0
              (and_intro (several R items p) (mem (get_or lead p 0) (take (i + 1) L)) (many_all R items x p here sx k.1) (subst (λ (z : ℕ). mem z (take (i + 1) L) ≡ true) e added))

          there : (h : ℕ) → InOrUnder t (filter (opens t n g lead (take (i + 1) L)) (members t n g)) h
              → InOrUnder t (filter (opens t n g lead (take i L)) (members t n g)) h ⊎ InOrUnder t (member_block t n g x) h
          there h (d, a) = go (any_true (λ p. within t p h) (filter (opens t n g lead (take (i + 1) L)) (members t n g)) a)
            where
              go : (p : ℕ) × (p ∈ filter (opens t n g lead (take (i + 1) L)) (members t n g)) × (within t p h ≡ true)
                  → InOrUnder t (filter (opens t n g lead (take i L)) (members t n g)) h ⊎ InOrUnder t (member_block t n g x) h
              go (p, m, w) = side (ℕ_discrete (get_or lead p 0) x)
                where
                  f : (p ∈ members t n g) × (opens t n g lead (take (i + 1) L) p ≡ true)
                  f = in_filter (opens t n g lead (take (i + 1) L)) p (members t n g) m

                  side : Dec (get_or lead p 0 ≡ x) → InOrUnder t (filter (opens t n g lead (take i L)) (members t n g)) h ⊎ InOrUnder t (member_block t n g x) h
                  side (yes e) = inr (
                    d,
                    any_intro (λ p. within t p h) (member_block t n g x) p
                        (block_in R items x p f.0 (subst (λ (z : ℕ). Tog R items z p) e (led_tog R items lead led p f.0))) w,
                  )
                  side (no e) = inl (
                    d,
                    any_intro (λ p. within t p h) (filter (opens t n g lead (take i L)) (members t n g)) p
                        (in_filter_of (opens t n g lead (take i L)) p (members t n g) f.0
                        (ap (λ (z : Bool). several R items p && z) (sym (more (get_or lead p 0) e)) ∙ f.1)) w,
                  )

          -- what another leader's chain holds
          own : (b y : ℕ) (z : Bool) → b ∈ members t n g → y ∈ cond z (expanded_block t n g b) (member_block t n g b) → Held t n ok g b y
          own b y true mb m = held t n ok g b y mb m
          own b y false mb m = let k = in_block_lem R items b y m in (y, k.0, k.1, (0, refl))

          positive : (b y : ℕ) → Held t n ok g b y → 1 ≤ y
          positive b y h = omega (arith, within_le t n ok h.0 y h.3, label_of h.0 h.1)

          chains : (b : ℕ) → b ∈ leaders R items → Dec (b ≡ x) → Chain n links' (get_or links' b 0) (cond (mem b (take (i + 1) L)) (expanded_block t n g b) (member_block t n g b))
          chains b m (yes e) =
              let d : cond (mem x (take (i + 1) L)) (expanded_block t n g x) (member_block t n g x) ≡ several_plan t n g x = rw (added, sx) in
              subst (λ (z : ℕ). Chain n links' (get_or links' z 0) (cond (mem z (take (i + 1) L)) (expanded_block t n g z) (member_block t n g z))) (sym e)
              (subst (λ (l : List ℕ). Chain n links' (get_or links' x 0) l) (sym d) re.chain)
          chains b m (no e) =
              subst (λ (z : Bool). Chain n links' (get_or links' b 0) (cond z (expanded_block t n g b) (member_block t n g b))) (sym (more b e))
              (subst (λ (q : ℕ). Chain n links' q (cond (mem b (take i L)) (expanded_block t n g b) (member_block t n g b))) (sym head)
              (chain_same n links links' (get_or links b 0) (cond (mem b (take i L)) (expanded_block t n g b) (member_block t n g b)) link (o.chains b m)))
            where
              l : (b ∈ members t n g) × (is_leader R items b ≡ true)
              l = lead_of R items b m

              head : get_or links' b 0 ≡ get_or links b 0
              head = re.others b e (λ y j z. omega (arith, positive x y (plan_held t n ok g x y j), label_of b l.0))

              link : (y : ℕ) → y ∈ cond (mem b (take i L)) (expanded_block t n g b) (member_block t n g b) → get_or links' (n + y) 0 ≡ get_or links (n + y) 0
              link y j = re.others (n + y) (λ z. omega (arith, positive b y (own b y (mem b (take i L)) l.0 j), label_of x here)) (λ v w z.
                  let s : v ≡ y = omega arith in
                  held_apart t n ok g x b y here l.0 lx l.1 e (subst (λ (q : ℕ). Held t n ok g x q) s (plan_held t n ok g x v w)) (own b y (mem b (take i L)) l.0 j))
