-- A block is opened: what is gathered from its members down is what lies inside, each once.
use mathlib.Core.Path.{◌≡◌, refl, sym, ap, ◌∙◌, subst}
use mathlib.Core.Logic.{◌⊎◌, inl, inr}
use mathlib.Core.List.{List, [], ◌∷◌, ◌++◌}
use mathlib.Core.Bool.{Bool, true, false, ◌&&◌}
use Prim.Native.Nat.{ℕ, zero, suc, ◌+◌, ◌-◌, ◌≤◌, ◌<◌}
use native.Mathlib.Omega.{arith}
use native.Mathlib.Nat.{le_antisymm}
use native.Mathlib.Decide.{ℕ_discrete}
use lib.Dec.{eqb}
use lib.IntN.{ℤ}
use lib.ListN.{length, get_or, set, take, length-append}
use lib.Seq.{get_or-set_same, get_or-set_other, length-take-le, take-take}
use borrow.Author.Tests.{eqb-true, eq-eqb, ne_eqb}
use Rattle.cells.specs.Table.{is_definition, owner}
use Rattle.cells.specs.Accepted.{Accepted}
use Rattle.order.specs.LabelLists.{one, count, ◌∈◌, filter, any}
use Rattle.order.specs.Blocks.{together}
use Rattle.order.specs.Order.{is_v, all_labels, values, is_member_of, members, Within, within, needs, member_block, in_block}
use Rattle.order.proofs.Tests.{both_ways, so_or_not, not_so, one_le, one_in}
use Rattle.order.proofs.Lists.{zero_or_in, any_true, any_intro, in_append, in_filter, count_append, length_mono, length_up_from, filter_le}
use Rattle.order.proofs.Lists.{count_filter_pass, count_filter_fail, count_filter_le}
use Rattle.order.proofs.Tables.{v_def, g_def, def_label, owner_below, owner_group, count_values, member_of, count_member, members_once, in_labels}
use Rattle.order.proofs.Tree.{up_le, within_sound, within_complete, within_up}
use Rattle.marks.specs.Marks.{mark, Common, Rising}
use Rattle.placing.proofs.Lists.{in_take, count_more, count_take_le}
use Rattle.reach.specs.MarkRows.{width}
use Rattle.groups.specs.Members.{Chain, Gathered, MaskedBy}
use Rattle.groups.specs.Opening.{Siblings, InOrUnder, MemberChains, ChainsCleared, AllInside}
use Rattle.groups.proofs.Chains.{labels_few, rising_part, rising_filter, rising_same, chain_same}

take_front : (k : ℕ) (a b : List ℕ) → k ≤ length a → take k (a ++ b) ≡ take k a
take_front zero a b h = refl
take_front (suc k) [] b h = absurd (omega arith)
take_front (suc k) (x ∷ a) b h = ap (λ (l : List ℕ). x ∷ l) (take_front k a b (omega arith))

-- the first k items are the block and the members of the first i, whose chains are cleared
pub record Opening (t : List ℤ) (block next₀ next items : List ℕ) (k i : ℕ) : Type 0 where
  pub counts : (v : ℕ) → is_definition t v ≡ true → count v (take k items) ≡ count v block + count (owner t v) (take i items)
  pub defs : (v : ℕ) → v ∈ take k items → is_definition t v ≡ true
  pub before : i ≤ k
  pub within : k ≤ length items
  pub gone : (h : ℕ) → h ∈ take i items → get_or next h 0 ≡ 0
  pub others : (y : ℕ) → (y ∈ take i items → ⊥) → get_or next y 0 ≡ get_or next₀ y 0

module _ (t : List ℤ) (n : ℕ) (ok : Accepted t n) (block : List ℕ) (s : Siblings t block) where
  -- ---- what lies inside

  abbrev inside : ℕ → Bool
  inside v = any (λ p. within t p v) block

  inside_of : (p v : ℕ) → p ∈ block → Within t p v → inside v ≡ true
  inside_of p v m w = any_intro (λ p. within t p v) block p m (within_complete t n ok p v (def_label t n ok p (s.defs p m)).0 w)

  of_inside : (v : ℕ) → inside v ≡ true → (p : ℕ) × (p ∈ block) × Within t p v
  of_inside v e = let w = any_true (λ p. within t p v) block e in (w.0, w.1, within_sound t n ok w.0 v w.2)

  -- what is inside is above the block's Group
  inside_above : (v : ℕ) → inside v ≡ true → s.group < v
  inside_above v e =
      let w = of_inside v e in
      let u : w.0 ≤ v = subst (λ (x : ℕ). x ≤ v) w.2.1 (up_le t n ok w.2.0 v) in
      omega (arith, s.owners w.0 w.1, owner_below t n ok w.0 (def_label t n ok w.0 (s.defs w.0 w.1)).0)

  -- and so is its Group, unless it is of the block
  inside_up : (v : ℕ) → count v block ≡ 0 → inside v ≡ inside (owner t v)
  inside_up v z = go (so_or_not (inside v)) (so_or_not (inside (owner t v)))
    where
      go : (inside v ≡ true) ⊎ (inside v ≡ false) → (inside (owner t v) ≡ true) ⊎ (inside (owner t v) ≡ false) → inside v ≡ inside (owner t v)
      go (inl a) (inl b) = a ∙ sym b
      go (inr a) (inr b) = a ∙ sym b
      go (inl a) (inr b) =
          let w = of_inside v a in
          let d : v ≡ w.0 → ⊥ = λ e. omega (arith, subst (λ (x : ℕ). x ∈ block) (sym e) w.1) in
          both_ways (inside (owner t v)) (inside_of w.0 (owner t v) w.1 (within_up t n ok w.0 v w.2 d)) b
      go (inr a) (inl b) =
          let w = of_inside (owner t v) b in
          both_ways (inside v) (inside_of w.0 v w.1 (suc w.2.0, w.2.1)) a

  inside_owner : (v : ℕ) → inside v ≡ true → s.group ≤ owner t v
  inside_owner v e = go (zero_or_in (count v block))
    where
      go : (count v block ≡ 0) ⊎ (v ∈ block) → s.group ≤ owner t v
      go (inl z) = omega (arith, inside_above (owner t v) (sym (inside_up v z) ∙ e))
      go (inr m) = omega (arith, s.owners v m)

  -- ---- a list of the block and of the members of those in another, which is a part of it

  module _ (all part : List ℕ) (counts : (v : ℕ) → is_definition t v ≡ true → count v all ≡ count v block + count (owner t v) part)
      (defs : (v : ℕ) → v ∈ all → is_definition t v ≡ true) (sub : (v : ℕ) → count v part ≤ count v all) where
    -- what is no definition is in neither
    none : (v : ℕ) → is_definition t v ≡ false → count v part ≡ 0
    none v d = go (zero_or_in (count v all))
      where
        go : (count v all ≡ 0) ⊎ (v ∈ all) → count v part ≡ 0
        go (inl z) = omega (arith, sub v)
        go (inr m) = both_ways (is_definition t v) (defs v m) d

    at_most : (k v : ℕ) → v ≤ k → is_definition t v ≡ true → count v all ≤ one (inside v)
    at_most zero v h d = absurd (omega (arith, (def_label t n ok v d).0))
    at_most (suc k) v h d =
        go (zero_or_in (count v block)) (so_or_not (is_definition t (owner t v))) (at_most k (owner t v) (omega (arith, owner_below t n ok v (def_label t n ok v d).0)))
      where
        go : (count v block ≡ 0) ⊎ (v ∈ block) → (is_definition t (owner t v) ≡ true) ⊎ (is_definition t (owner t v) ≡ false)
            → (is_definition t (owner t v) ≡ true → count (owner t v) all ≤ one (inside (owner t v)))
            → count v all ≤ one (inside v)
        go (inl z) (inl e) up = omega (arith, counts v d, ap one (inside_up v z), sub (owner t v), up e)
        go (inl z) (inr e) up = omega (arith, counts v d, none (owner t v) e)
        go (inr m) (inr e) up = omega (arith, counts v d, s.once v, none (owner t v) e, ap one (inside_of v v m (0, refl)))
        go (inr m) (inl e) up =
            let f : inside (owner t v) ≡ false = not_so (inside (owner t v)) (λ i. omega (arith, inside_above (owner t v) i, s.owners v m)) in
            omega (arith, counts v d, s.once v, sub (owner t v), up e, ap one f, ap one (inside_of v v m (0, refl)))

    all_inside : (v : ℕ) → v ∈ all → inside v ≡ true
    all_inside v m = one_in (inside v) (omega (arith, at_most v v (omega arith) (defs v m)))

    few : length all ≤ n
    few = let m = length_mono all (all_labels n) (λ x. at x (zero_or_in (count x all))) in omega (arith, length_up_from 1 n)
      where
        at : (x : ℕ) → (count x all ≡ 0) ⊎ (x ∈ all) → count x all ≤ count x (all_labels n)
        at x (inl e) = omega arith
        at x (inr m) =
            let b = def_label t n ok x (defs x m) in
            omega (arith, at_most x x (omega arith) (defs x m), one_le (inside x), in_labels t n ok x b.0 b.1)

    -- where nothing is left, all that lies inside is there
    module _ (rest : (v : ℕ) → count v all ≤ count v part) where
      at_least : (k v : ℕ) → v ≤ k → is_definition t v ≡ true → one (inside v) ≤ count v all
      at_least zero v h d = absurd (omega (arith, (def_label t n ok v d).0))
      at_least (suc k) v h d =
          go (zero_or_in (count v block)) (so_or_not (inside v)) (at_least k (owner t v) (omega (arith, owner_below t n ok v (def_label t n ok v d).0)))
        where
          go : (count v block ≡ 0) ⊎ (v ∈ block) → (inside v ≡ true) ⊎ (inside v ≡ false)
              → (is_definition t (owner t v) ≡ true → one (inside (owner t v)) ≤ count (owner t v) all)
              → one (inside v) ≤ count v all
          go (inl z) (inr e) up = omega (arith, ap one e)
          go (inr m) _ up = omega (arith, counts v d, one_le (inside v))
          go (inl z) (inl e) up =
              let i : inside (owner t v) ≡ true = sym (inside_up v z) ∙ e in
              let g = g_def t (owner t v) (owner_group t n ok v d (omega (arith, inside_above (owner t v) i, owner_below t n ok v (def_label t n ok v d).0))) in
              omega (arith, counts v d, rest (owner t v), ap one (inside_up v z), up g)

  -- ---- the turns of `open_members`

  count_members : (x v : ℕ) → is_definition t v ≡ true → count v (members t n x) ≡ one (eqb (owner t v) x)
  count_members x v d = go (so_or_not (eqb (owner t v) x))
    where
      go : (eqb (owner t v) x ≡ true) ⊎ (eqb (owner t v) x ≡ false) → count v (members t n x) ≡ one (eqb (owner t v) x)
      go (inl e) = count_member t n ok x v d (eqb-true (owner t v) x e) ∙ sym (ap one e)
      go (inr e) = count_filter_fail (is_member_of t x) v (all_labels n) (rw (d, e)) ∙ sym (ap one e)

  module _ (next₀ next items : List ℕ) (k i : ℕ) (o : Opening t block next₀ next items k i) where
    sub_count : (v : ℕ) → count v (take i items) ≤ count v (take k items)
    sub_count v = count_take_le v items i k o.before

    pub opening_few : k ≤ n
    opening_few = omega (arith, few (take k items) (take i items) o.counts o.defs sub_count, length-take-le k items o.within)

    -- a label that is opened is no link of a chain
    low : (y : ℕ) → y ∈ take i items → y ≤ n
    low y m = (def_label t n ok y (o.defs y (omega (arith, sub_count y)))).1

    back : (v : ℕ) → v ∈ take k items → InOrUnder t block v
    back v m = (o.defs v m, all_inside (take k items) (take i items) o.counts o.defs sub_count v m)

    module _ (x : ℕ) (is : x ≡ get_or items i 0) (more : i < k) where
      here : x ∈ take k items
      here = subst (λ (y : ℕ). y ∈ take k items) (sym is) (in_take items k i more o.within)

      pub opening_inside : InOrUnder t block x
      opening_inside = back x here

      -- x is the next to be opened
      step : (v : ℕ) → count v (take (i + 1) items) ≡ count v (take i items) + one (eqb v x)
      step v = count_more v items i (omega (arith, o.within)) ∙ ap (λ (y : ℕ). count v (take i items) + one (eqb v y)) (sym is)

      closed : x ∈ take i items → ⊥
      closed m =
          let h = at_most (take k items) (take i items) o.counts o.defs sub_count x x (omega arith) opening_inside.0 in
          omega (arith, step x, ap one (eq-eqb x x refl), count_take_le x items (i + 1) k (omega arith), one_le (inside x))

      -- ---- with its members

      counts_on : (v : ℕ) → is_definition t v ≡ true → count v (take k items ++ members t n x) ≡ count v block + count (owner t v) (take (i + 1) items)
      counts_on v d = omega (arith, count_append v (take k items) (members t n x), o.counts v d, count_members x v d, step (owner t v))

      defs_on : (v : ℕ) → v ∈ take k items ++ members t n x → is_definition t v ≡ true
      defs_on v m = go (in_append v (take k items) (members t n x) m)
        where
          go : (v ∈ take k items) ⊎ (v ∈ members t n x) → is_definition t v ≡ true
          go (inl h) = o.defs v h
          go (inr h) = (member_of t n ok x v h).0

      pub opening_room : n < length items → length (members t n x) ≤ length items - k
      opening_room room =
          let f = few (take k items ++ members t n x) (take (i + 1) items) counts_on defs_on
          (λ v. omega (arith, count_append v (take k items) (members t n x), count_take_le v items (i + 1) k (omega arith))) in
          omega (arith, length-append (take k items) (members t n x), length-take-le k items o.within)

      pub opening_chain : MemberChains t n block next₀ → Chain n next (get_or next x 0) (members t n x)
      opening_chain chains =
          subst (λ (q : ℕ). Chain n next q (members t n x)) (sym (o.others x closed))
          (chain_same n next₀ next (get_or next₀ x 0) (members t n x) (λ v m. o.others (n + v) (λ j. omega (arith, low (n + v) j, (def_label t n ok v (member_of t n ok x v m).0).0)))
          (chains x opening_inside))

      module _ (items' : List ℕ) (k' : ℕ) (g : Gathered (take k items ++ members t n x) items' k') where
        long : k' ≡ k + length (members t n x)
        long = omega (arith, length-take-le k' items' g.within, ap length g.cells, length-append (take k items) (members t n x), length-take-le k items o.within)

        front : take (i + 1) items' ≡ take (i + 1) items
        front =
            sym (take-take (i + 1) k' items' (omega (arith, long))) ∙ ap (take (i + 1)) g.cells
            ∙ take_front (i + 1) (take k items) (members t n x) (omega (arith, length-take-le k items o.within)) ∙ take-take (i + 1) k items (omega arith)

        pub opening_turn : x < length next → Opening t block next₀ (set next x 0) items' k' (i + 1)
        opening_turn room = record {
          counts = λ v d. ap (count v) g.cells ∙ counts_on v d ∙ ap (λ (l : List ℕ). count v block + count (owner t v) l) (sym front);
          defs = λ v m. defs_on v (subst (λ (l : List ℕ). v ∈ l) g.cells m);
          before = omega (arith, long);
          within = g.within;
          gone = λ h m. gone h (ℕ_discrete h x) (subst (λ (l : List ℕ). h ∈ l) front m);
          others = λ y f. get_or-set_other next x y 0 0 (λ e. f (subst (λ (l : List ℕ). y ∈ l) (sym front) (omega (arith, step y, ap one (eq-eqb y x e)))))
              ∙ o.others y (λ m. f (subst (λ (l : List ℕ). y ∈ l) (sym front) (omega (arith, step y))));
        }
          where
            gone : (h : ℕ) → Dec (h ≡ x) → h ∈ take (i + 1) items → get_or (set next x 0) h 0 ≡ 0
            gone h (yes e) m = ap (λ (y : ℕ). get_or (set next x 0) y 0) e ∙ get_or-set_same next x 0 0 room
            gone h (no e) m = get_or-set_other next x h 0 0 e ∙ o.gone h (omega (arith, step h, ap one (ne_eqb h x e)))

    -- all of them are opened
    module _ (last : k ≤ i) where
      counts_all : (v : ℕ) → is_definition t v ≡ true → count v (take k items) ≡ one (inside v)
      counts_all v d =
          le_antisymm (at_most (take k items) (take i items) o.counts o.defs sub_count v v (omega arith) d)
          (at_least (take k items) (take i items) o.counts o.defs sub_count (λ x. count_take_le x items k i last) v v (omega arith) d)

      pub opening_end : AllInside t block items k × ChainsCleared t block next₀ next
      opening_end = (record { counts = counts_all; defs = o.defs; within = o.within }, record { gone = gone; others = others })
        where
          gone : (h : ℕ) → InOrUnder t block h → get_or next h 0 ≡ 0
          gone h w = o.gone h (omega (arith, counts_all h w.0, ap one w.1, count_take_le h items k i last))

          others : (y : ℕ) → (InOrUnder t block y → ⊥) → get_or next y 0 ≡ get_or next₀ y 0
          others y f = o.others y (λ m. f (back y (omega (arith, sub_count y))))

  -- ---- the values inside, listed upward

  module _ (items mask list : List ℕ) (k r : ℕ) (g : AllInside t block items k) (masked : MaskedBy t n false (take k items) mask)
      (marks : Common mask mask (width n) 0 list r) (rising : Rising (take r list)) where
    counts_same : (q : ℕ) → count q (take r list) ≡ count q (filter inside (values t n))
    counts_same q = marks q ∙ go (so_or_not (is_v t q)) (so_or_not (inside q))
      where
        in_mask : is_v t q ≡ true → inside q ≡ true → mark mask (width n) 0 q ≡ true
        in_mask v e = (masked q).1 (omega (arith, g.counts q (v_def t q v), ap one e), v)

        out_mask : (is_v t q ≡ true → inside q ≡ true → ⊥) → mark mask (width n) 0 q ≡ false
        out_mask f = not_so (mark mask (width n) 0 q) (λ e. let w = (masked q).0 e in f w.1 (found w.0))
          where
            found : q ∈ take k items → inside q ≡ true
            found m = one_in (inside q) (omega (arith, g.counts q (g.defs q m)))

        go : (is_v t q ≡ true) ⊎ (is_v t q ≡ false) → (inside q ≡ true) ⊎ (inside q ≡ false)
            → one (mark mask (width n) 0 q && mark mask (width n) 0 q) ≡ count q (filter inside (values t n))
        go (inl v) (inl e) = rw (in_mask v e) (sym (count_filter_pass inside q (values t n) e ∙ count_values t n ok q ∙ ap one v))
        go (inl v) (inr e) = rw (out_mask (λ _ i. both_ways (inside q) i e)) (sym (count_filter_fail inside q (values t n) e))
        go (inr v) _ = rw (out_mask (λ i _. both_ways (is_v t q) i v)) (omega (arith, count_filter_le inside q (values t n), count_values t n ok q, ap one v))

    pub values_listed : r ≤ length list → Gathered (filter inside (values t n)) list r
    values_listed h = record {
      cells = rising_same (take r list) (filter inside (values t n)) rising (rising_part inside (values t n) (rising_filter (is_v t) 1 n)) counts_same;
      within = h;
    }

-- ---- a block of a Group's members

module _ (t : List ℤ) (n : ℕ) (ok : Accepted t n) (g b : ℕ) where
  block_member : (p : ℕ) → p ∈ member_block t n g b → p ∈ members t n g
  block_member p m = (in_filter (together (needs t n) (members t n g) b) p (members t n g) m).0

  pub block_siblings : Siblings t (member_block t n g b)
  block_siblings = record {
    group = g;
    defs = λ p m. (member_of t n ok g p (block_member p m)).0;
    owners = λ p m. (member_of t n ok g p (block_member p m)).1;
    once = λ p. omega (arith, count_filter_le (together (needs t n) (members t n g) b) p (members t n g), members_once t n ok g p);
  }

  pub block_few : length (member_block t n g b) ≤ n
  block_few = omega (arith, filter_le (together (needs t n) (members t n g) b) (members t n g), labels_few (is_member_of t g) n)

  pub block_owner : (v : ℕ) → in_block t n g b v ≡ true → g ≤ owner t v
  unfolding block_siblings
  block_owner v e = inside_owner t n ok (member_block t n g b) block_siblings v e
