-- Groups worked on one after the other: what a Group's turn leaves of the chains of the others.
use mathlib.Core.Path.{◌≡◌, refl, sym, ap, ◌∙◌, subst}
use mathlib.Core.Logic.{◌⊎◌, inl, inr}
use mathlib.Core.List.{List, []}
use mathlib.Core.Bool.{true, false, ◌&&◌}
use Prim.Native.Nat.{ℕ, zero, suc, ◌+◌, ◌≤◌, ◌<◌}
use native.Mathlib.Omega.{arith}
use native.Mathlib.Decide.{ℕ_discrete, dec_lt}
use lib.IntN.{ℤ}
use lib.ListN.{get_or}
use Rattle.cells.specs.Table.{is_definition, owner}
use Rattle.cells.specs.Accepted.{Accepted}
use Rattle.order.specs.LabelLists.{◌∈◌, joined}
use Rattle.order.specs.Blocks.{several, has_several, placed_blocks}
use Rattle.order.specs.Order.{is_g, is_v, all_labels, members, Within, within, needs, group_tangled, sheet_tangled}
use Rattle.order.proofs.Tests.{both_ways, not_so, and_right, and_intro}
use Rattle.order.proofs.Lists.{in_filter, in_filter_of, any_true, any_intro, count_below, count_above}
use Rattle.order.proofs.Tables.{g_def, in_labels, def_label, pos_of, member_of, owner_group, owner_below}
use Rattle.order.proofs.Tree.{up_le, meet, within_sound, within_complete, within_trans, within_up}
use Rattle.order.proofs.Untangled.{one_each}
use Rattle.groups.specs.Members.{Chain, Relinked}
use Rattle.groups.specs.Opening.{InOrUnder, ChainsCleared}
use Rattle.groups.specs.Opened.{expanded_block, expanded, tangled_members, Opened, Progress}
use Rattle.groups.proofs.Chains.{chain_same, chain_empty}
use Rattle.groups.proofs.Expanded.{many_item, Stands, stands, stands_def}

module _ (t : List ℤ) (n : ℕ) (ok : Accepted t n) where
  -- ---- the tree

  pub within_le : (p v : ℕ) → Within t p v → p ≤ v
  within_le p v u = omega (arith, up_le t n ok u.0 v, u.1)

  pub member_above : (g q : ℕ) → q ∈ members t n g → g < q
  member_above g q m = let w = member_of t n ok g q m in omega (arith, owner_below t n ok q (pos_of t n ok q w.0), w.1)

  group_def : (g q : ℕ) → 1 ≤ g → q ∈ members t n g → is_definition t g ≡ true
  group_def g q lo m =
      let w = member_of t n ok g q m in
      g_def t g (subst (λ (k : ℕ). is_g t k ≡ true) w.1 (owner_group t n ok q w.0 (omega (arith, member_above g q m))))

  -- of two that are above x, the one with the smaller owner is above the other's owner
  between : (p q x : ℕ) → 1 ≤ q → owner t p < owner t q → Within t p x → Within t q x → Within t p (owner t q)
  between p q x hq l a b = go (meet t n ok p q a.0 b.0 x a.1 b.1) (ℕ_discrete q p)
    where
      go : (Within t p q) ⊎ (Within t q p) → Dec (q ≡ p) → Within t p (owner t q)
      go _ (yes e) = let z : owner t q ≡ owner t p = ap (owner t) e in absurd (omega arith)
      go (inl u) (no e) = within_up t n ok p q u e
      go (inr u) (no e) =
          let k = within_le q (owner t p) (within_up t n ok q p u (λ z. e (sym z))) in
          absurd (omega (arith, owner_below t n ok q hq))

  -- ---- what is opened

  opened_more : (g h : ℕ) → Opened t n g h → Opened t n (g + 1) h
  opened_more g h o = record { def = o.def; member = o.member; some = o.some; early = omega (arith, o.early); many = o.many; inside = o.inside }

  opened_under : (g h k : ℕ) → Opened t n g h → is_definition t k ≡ true → Within t h k → Opened t n g k
  opened_under g h k o d u = record { def = d; member = o.member; some = o.some; early = o.early; many = o.many; inside = within_trans t n ok o.member h k o.inside u }

  -- by a member of g
  abbrev OpenedBy : ℕ → ℕ → Type 0
  OpenedBy g h = (is_definition t h ≡ true) × ((q : ℕ) × (q ∈ members t n g) × (several (needs t n) (members t n g) q ≡ true) × Within t q h)

  opened_by : (g h : ℕ) → 1 ≤ g → OpenedBy g h → Opened t n (g + 1) h
  opened_by g h lo (d, (q, m, s, u)) =
      let e = (member_of t n ok g q m).1 in
      record { def = d; member = q; some = omega arith; early = omega arith; many = rw e s; inside = u }

  -- the same, as what is inside the members of blocks of several
  of_inside : (g h : ℕ) → InOrUnder t (tangled_members t n g) h → OpenedBy g h
  of_inside g h (d, a) =
      let w = any_true (λ p. within t p h) (tangled_members t n g) a in
      let f = in_filter (several (needs t n) (members t n g)) w.0 (members t n g) w.1 in
      (d, (w.0, f.0, f.1, within_sound t n ok w.0 h w.2))

  inside_of : (g h : ℕ) → OpenedBy g h → InOrUnder t (tangled_members t n g) h
  inside_of g h (d, (q, m, s, u)) = (
    d,
    any_intro (λ p. within t p h) (tangled_members t n g) q (in_filter_of (several (needs t n) (members t n g)) q (members t n g) m s)
        (within_complete t n ok q h (pos_of t n ok q (member_of t n ok g q m).0) u),
  )

  opened_cases : (g h : ℕ) → Opened t n (g + 1) h → Opened t n g h ⊎ OpenedBy g h
  opened_cases g h o = go (ℕ_discrete (owner t o.member) g)
    where
      go : Dec (owner t o.member ≡ g) → Opened t n g h ⊎ OpenedBy g h
      go (no e) = inl (record { def = o.def; member = o.member; some = o.some; early = omega (arith, o.early); many = o.many; inside = o.inside })
      go (yes e) =
          let s : several (needs t n) (members t n g) o.member ≡ true = subst (λ (z : ℕ). several (needs t n) (members t n z) o.member ≡ true) e o.many in
          inr (o.def, (o.member, many_item (needs t n) (members t n g) o.member s, s, o.inside))

  -- what lies under a Group that is not opened is opened by no Group below it
  pub under_free : (g q h : ℕ) → 1 ≤ g → (Opened t n g g → ⊥) → q ∈ members t n g → Within t q h → Opened t n g h → ⊥
  under_free g q h lo free m u o =
      let w = member_of t n ok g q m in
      let l : owner t o.member < owner t q = omega (arith, o.early, w.1) in
      free (record {
        def = group_def g q lo m;
        member = o.member;
        some = o.some;
        early = o.early;
        many = o.many;
        inside = subst (λ (z : ℕ). Within t o.member z) w.1 (between o.member q h (pos_of t n ok q w.0) l o.inside u);
      })

  -- a member that is alone in its block, of a Group that is not opened, is not opened
  pub alone_free : (g k x : ℕ) → 1 ≤ k → (Opened t n g k → ⊥) → x ∈ members t n k → several (needs t n) (members t n k) x ≡ false → Opened t n g x → ⊥
  alone_free g k x lo free m s o = go (ℕ_discrete x o.member)
    where
      e : owner t x ≡ k
      e = (member_of t n ok k x m).1

      go : Dec (x ≡ o.member) → ⊥
      go (yes z) =
          let r : several (needs t n) (members t n (owner t x)) x ≡ true = subst (λ (y : ℕ). several (needs t n) (members t n (owner t y)) y ≡ true) (sym z) o.many in
          both_ways (several (needs t n) (members t n k) x) (subst (λ (y : ℕ). several (needs t n) (members t n y) x ≡ true) e r) s
      go (no z) = free (record {
        def = group_def k x lo m;
        member = o.member;
        some = o.some;
        early = o.early;
        many = o.many;
        inside = subst (λ (y : ℕ). Within t o.member y) e (within_up t n ok o.member x o.inside z);
      })

  -- ---- two chains have nothing in common

  -- of a Group below g, and g
  apart_done : (k g x : ℕ) → 1 ≤ k → k < g → (Opened t n g g → ⊥) → x ∈ expanded t n k → x ∈ expanded t n g → ⊥
  apart_done k g x lo l free ik ig = go a.how
    where
      a : Stands t n k x
      a = stands t n ok k x ik

      b : Stands t n g x
      b = stands t n ok g x ig

      above_g : Within t a.member g
      above_g =
          let p = member_of t n ok k a.member a.of in
          let q = member_of t n ok g b.member b.of in
          let s : owner t a.member < owner t b.member = omega (arith, p.1, q.1) in
          subst (λ (z : ℕ). Within t a.member z) q.1 (between a.member b.member x (pos_of t n ok b.member q.0) s a.inside b.inside)

      go : ((a.member ≡ x) × (several (needs t n) (members t n k) x ≡ false)) ⊎ ((several (needs t n) (members t n k) a.member ≡ true) × (is_v t x ≡ true)) → ⊥
      go (inl e) = omega (arith, within_le a.member g above_g, e.0, within_le b.member x b.inside, member_above g b.member b.of)
      go (inr e) =
          let p = member_of t n ok k a.member a.of in
          free (record { def = group_def g b.member (omega arith) b.of; member = a.member; some = omega (arith, p.1); early = omega (arith, p.1); many = rw p.1 e.0; inside = above_g })

  -- of g, and a Group above it that is not opened
  apart_rest : (k g x : ℕ) → 1 ≤ g → g < k → (Opened t n (g + 1) k → ⊥) → x ∈ members t n k → x ∈ expanded t n g → ⊥
  apart_rest k g x lo l free ik ig = go b.how
    where
      b : Stands t n g x
      b = stands t n ok g x ig

      w : (is_definition t x ≡ true) × (owner t x ≡ k)
      w = member_of t n ok k x ik

      other : x ≡ b.member → ⊥
      other e = let z : owner t x ≡ owner t b.member = ap (owner t) e in omega (arith, w.1, (member_of t n ok g b.member b.of).1)

      go : ((b.member ≡ x) × (several (needs t n) (members t n g) x ≡ false)) ⊎ ((several (needs t n) (members t n g) b.member ≡ true) × (is_v t x ≡ true)) → ⊥
      go (inl e) = other (sym e.0)
      go (inr e) =
          let u = subst (λ (z : ℕ). Within t b.member z) w.1 (within_up t n ok b.member x b.inside other) in
          free (opened_by g k lo (group_def k x (omega arith) ik, (b.member, b.of, e.0, u)))

  module _ (g : ℕ) (next : List ℕ) (p : Progress t n g next) (low : 1 ≤ g) (high : g ≤ n) where
    -- ---- a Group that has a chain

    pub progress_open : (get_or next g 0 ≡ 0 → ⊥) → Opened t n g g → ⊥
    progress_open z o = z (p.closed g high o)

    -- ---- a Group that has none: it has no members, or it is opened

    module _ (z : get_or next g 0 ≡ 0) where
      none : (Opened t n g g → ⊥) → members t n g ≡ []
      none f = chain_empty n next (get_or next g 0) (members t n g) z (p.rest g high (omega arith) f)

      pub skip_plain : (Opened t n g g → ⊥) → group_tangled t n g ≡ false
      skip_plain f = ap (has_several (needs t n)) (none f)

      pub progress_skip : Progress t n (g + 1) next
      progress_skip = record {
        closed = λ h b o. closed h b (opened_cases g h o) (ℕ_discrete (get_or next h 0) 0);
        done = λ h a b l f. done h a b l (λ o. f (opened_more g h o)) (ℕ_discrete h g);
        rest = λ h b l f. p.rest h b (omega arith) (λ o. f (opened_more g h o));
      }
        where
          closed : (h : ℕ) → h ≤ n → Opened t n g h ⊎ OpenedBy g h → Dec (get_or next h 0 ≡ 0) → get_or next h 0 ≡ 0
          closed h b _ (yes e) = e
          closed h b (inl o) (no e) = p.closed h b o
          closed h b (inr o) (no e) = absurd (empty (none (λ w. e (p.closed h b (opened_under g g h w o.0 in_g)))))
            where
              m : (is_definition t o.1.0 ≡ true) × (owner t o.1.0 ≡ g)
              m = member_of t n ok g o.1.0 o.1.1

              in_g : Within t g h
              in_g = within_trans t n ok g o.1.0 h (1, m.1) o.1.3

              empty : members t n g ≡ [] → ⊥
              empty q = let i : o.1.0 ∈ [] = subst (λ (l : List ℕ). o.1.0 ∈ l) q o.1.1 in omega arith

          done : (h : ℕ) → 1 ≤ h → h ≤ n → h < g + 1 → (Opened t n g h → ⊥) → Dec (h ≡ g) → Chain n next (get_or next h 0) (expanded t n h)
          done h a b l f (no e) = p.done h a b (omega arith) f
          done h a b l f (yes e) =
              let m : members t n h ≡ [] = subst (λ (k : ℕ). members t n k ≡ []) (sym e) (none (λ o. f (subst (λ (k : ℕ). Opened t n g k) (sym e) o))) in
              let q : expanded t n h ≡ [] = ap (λ (l : List ℕ). joined (expanded_block t n h) (placed_blocks (needs t n) l)) m in
              subst (λ (l : List ℕ). Chain n next (get_or next h 0) l) (sym q) (ap (λ (k : ℕ). get_or next k 0) e ∙ z)

    -- ---- a Group put in order, its blocks of several opened

    module _ (free : Opened t n g g → ⊥) (next₁ next₂ : List ℕ) (cl : ChainsCleared t (tangled_members t n g) next next₁) (re : Relinked n g (expanded t n g) next₁ next₂) where
      -- what is not in or under a block of several keeps its head, and all keep their links
      head_same : (k : ℕ) → k ≤ n → (k ≡ g → ⊥) → (OpenedBy g k → ⊥) → get_or next₂ k 0 ≡ get_or next k 0
      head_same k b d f =
          re.others k d (λ x i e. omega (arith, (def_label t n ok x (stands_def t n ok g x (stands t n ok g x i))).0))
          ∙ cl.others k (λ i. f (of_inside g k i))

      link_same : (x : ℕ) → 1 ≤ x → (x ∈ expanded t n g → ⊥) → get_or next₂ (n + x) 0 ≡ get_or next (n + x) 0
      link_same x a f =
          re.others (n + x) (λ e. omega arith) (λ y i e. let z : x ≡ y = omega arith in f (subst (λ (v : ℕ). v ∈ expanded t n g) (sym z) i))
          ∙ cl.others (n + x) (λ i. omega (arith, def_label t n ok (n + x) i.0))

      moved : (k : ℕ) (l : List ℕ) → k ≤ n → (k ≡ g → ⊥) → (OpenedBy g k → ⊥) → ((x : ℕ) → x ∈ l → (1 ≤ x) × (x ∈ expanded t n g → ⊥))
          → Chain n next (get_or next k 0) l
          → Chain n next₂ (get_or next₂ k 0) l
      moved k l b d f of c =
          subst (λ (q : ℕ). Chain n next₂ q l) (sym (head_same k b d f))
          (chain_same n next next₂ (get_or next k 0) l (λ x i. let w = of x i in link_same x w.0 w.1) c)

      -- a Group does not lie under its members
      not_under : (k : ℕ) → k ≤ g → OpenedBy g k → ⊥
      not_under k l o = omega (arith, within_le o.1.0 k o.1.3, member_above g o.1.0 o.1.1)

      pub progress_turn : Progress t n (g + 1) next₂
      progress_turn = record {
        closed = λ h b o. closed h b (opened_cases g h o);
        done = λ h a b l f. done h a b l f (ℕ_discrete h g);
        rest = λ h b l f. rest h b l f;
      }
        where
          closed : (h : ℕ) → h ≤ n → Opened t n g h ⊎ OpenedBy g h → get_or next₂ h 0 ≡ 0
          closed h b (inl o) =
              head_same h b (λ e. free (subst (λ (k : ℕ). Opened t n g k) e o)) (λ w. under_free g w.1.0 h low free w.1.1 w.1.3 o) ∙ p.closed h b o
          closed h b (inr o) =
              re.others h (λ e. not_under h (omega arith) o) (λ x i e. omega (arith, (def_label t n ok x (stands_def t n ok g x (stands t n ok g x i))).0))
              ∙ cl.gone h (inside_of g h o)

          done : (h : ℕ) → 1 ≤ h → h ≤ n → h < g + 1 → (Opened t n (g + 1) h → ⊥) → Dec (h ≡ g) → Chain n next₂ (get_or next₂ h 0) (expanded t n h)
          done h a b l f (yes e) = subst (λ (k : ℕ). Chain n next₂ (get_or next₂ k 0) (expanded t n k)) (sym e) re.chain
          done h a b l f (no e) =
              moved h (expanded t n h) b e (not_under h (omega arith))
              (λ x i. ((def_label t n ok x (stands_def t n ok h x (stands t n ok h x i))).0, apart_done h g x a (omega arith) free i))
              (p.done h a b (omega arith) (λ o. f (opened_more g h o)))

          rest : (h : ℕ) → h ≤ n → g + 1 ≤ h → (Opened t n (g + 1) h → ⊥) → Chain n next₂ (get_or next₂ h 0) (members t n h)
          rest h b l f =
              moved h (members t n h) b (λ e. omega arith) (λ o. f (opened_by g h low o))
              (λ x i. (pos_of t n ok x (member_of t n ok h x i).0, apart_rest h g x low (omega arith) f i))
              (p.rest h b (omega arith) (λ o. f (opened_more g h o)))

  -- a Group with no block of several has nothing to clear
  pub plain_cleared : (g : ℕ) (next : List ℕ) → group_tangled t n g ≡ false → ChainsCleared t (tangled_members t n g) next next
  plain_cleared g next f = record {
    gone = λ h i. let w = (of_inside g h i).1 in both_ways (several (needs t n) (members t n g) w.0) w.2 (one_each t n ok g f w.0 w.1);
    others = λ y d. refl;
  }

  -- ---- some Group is tangled, or none

  -- a Group that has a block of several is one
  pub some_tangled : (g : ℕ) → 1 ≤ g → g ≤ n → group_tangled t n g ≡ true → sheet_tangled t n ≡ true
  some_tangled g low high e = any_intro (λ g. is_g t g && group_tangled t n g) (all_labels n) g (in_labels t n ok g low high) (and_intro (is_g t g) (group_tangled t n g) is_g_lem e)
    where
      is_g_lem : is_g t g ≡ true
      is_g_lem =
          let w = any_true (several (needs t n) (members t n g)) (members t n g) e in
          let m = member_of t n ok g w.0 w.1 in
          subst (λ (k : ℕ). is_g t k ≡ true) m.1 (owner_group t n ok w.0 m.0 (omega (arith, member_above g w.0 w.1)))

  pub none_tangled : ((h : ℕ) → 1 ≤ h → h ≤ n → (Opened t n h h → ⊥) → group_tangled t n h ≡ false) → sheet_tangled t n ≡ false
  none_tangled f = not_so (sheet_tangled t n) (λ s.
      let w = any_true (λ g. is_g t g && group_tangled t n g) (all_labels n) s in
      let b = label w.0 w.1 in
      both_ways (group_tangled t n w.0) (and_right (is_g t w.0) (group_tangled t n w.0) w.2) (f w.0 b.0 b.1 (closed w.0 w.0 (omega arith) b.1)))
    where
      label : (x : ℕ) → x ∈ all_labels n → (1 ≤ x) × (x ≤ n)
      label x m = go (dec_lt x 1) (dec_lt n x)
        where
          go : Dec (x < 1) → Dec (n < x) → (1 ≤ x) × (x ≤ n)
          go (yes a) _ = absurd (omega (arith, count_below x 1 n a))
          go (no a) (yes b) = absurd (omega (arith, count_above x 1 n (omega arith)))
          go (no a) (no b) = (omega arith, omega arith)

      -- none is opened, since the Group of a member that opens would be tangled and not opened
      closed : (k h : ℕ) → h ≤ k → h ≤ n → Opened t n h h → ⊥
      closed zero h l b o = omega (arith, o.early)
      closed (suc k) h l b o =
          let g = owner t o.member in
          let q = f g o.some (omega (arith, o.early)) (closed k g (omega (arith, o.early)) (omega (arith, o.early))) in
          both_ways (several (needs t n) (members t n g) o.member) o.many
          (one_each t n ok g q o.member (many_item (needs t n) (members t n g) o.member o.many))
