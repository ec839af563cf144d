-- What stands in the chain of a Group in order: members that are alone in their block, and the values of its blocks of several.
use mathlib.Core.Path.{◌≡◌, refl, sym, ap, ◌∙◌, subst}
use mathlib.Core.Logic.{◌⊎◌, inl, inr}
use mathlib.Core.List.{List, [], ◌∷◌, ◌++◌, append-nil}
use mathlib.Core.Bool.{Bool, true, false, not}
use Prim.Native.Nat.{ℕ, ◌≤◌}
use native.Mathlib.Omega.{arith}
use native.Mathlib.Decide.{ℕ_discrete}
use lib.Dec.{eqb}
use lib.IntN.{ℤ}
use lib.ListN.{length}
use borrow.Author.Tests.{eqb-false, ne_eqb, not-true}
use Rattle.cells.specs.Table.{is_definition}
use Rattle.cells.specs.Accepted.{Accepted}
use Rattle.order.specs.LabelLists.{count, ◌∈◌, joined}
use Rattle.order.specs.Blocks.{block_of, several, is_leader}
use Rattle.order.specs.Order.{is_v, all_labels, values, members, Within, within, reaches, needs, member_block, ordered, in_block, block_values, several_plan}
use Rattle.order.specs.Order.{listed, block_listed, group_tangled}
use Rattle.order.proofs.Tests.{so_or_not}
use Rattle.order.proofs.Lists.{count_here, count_there, in_here, in_there, in_single, in_filter, any_true, any_intro, zero_or_in, length_mono, length_up_from, filter_le, count_filter_le}
use Rattle.order.proofs.Placing.{placed_sub, placed_le}
use Rattle.order.proofs.Closure.{step, then}
use Rattle.order.proofs.Joined.{joined_same, joined_append, in_joined, joined_one}
use Rattle.order.proofs.Tables.{v_def, def_label, pos_of, in_labels, member_of, value_of, values_once}
use Rattle.order.proofs.Tree.{within_sound, apart}
use Rattle.order.proofs.Blocks.{Onto, onto_member, Tog, tog_refl, tog_sym, tog_trans, in_block_lem, block_in, leader_once}
use Rattle.order.proofs.BlockPlan.{ordered_lead, ordered_once}
use Rattle.order.proofs.Untangled.{one_each}
use Rattle.groups.specs.Opened.{expanded_block, expanded}

-- ---- joined lists

joined_each : (f : ℕ → List ℕ) (l : List ℕ) → ((b : ℕ) → b ∈ l → f b ≡ b ∷ []) → joined f l ≡ l
joined_each f [] h = refl
joined_each f (x ∷ l) h = rw (h x (in_here x l)) (ap (λ (k : List ℕ). x ∷ k) (joined_each f l (λ b m. h b (in_there b x l m))))

joined_joined : (f h : ℕ → List ℕ) (l : List ℕ) → joined f (joined h l) ≡ joined (λ b. joined f (h b)) l
joined_joined f h [] = refl
joined_joined f h (x ∷ l) = joined_append f (h x) (joined h l) ∙ ap (λ (k : List ℕ). joined f (h x) ++ k) (joined_joined f h l)

-- ---- a block of several

module _ (R : ℕ → ℕ → Bool) (items : List ℕ) where
  last_in : {p q : ℕ} → Onto R items p q → q ∈ items
  last_in {p} {q} (step s) = onto_member R items p q s
  last_in {p} {q} (then {c = c} r s) = onto_member R items c q s

  pub many_item : (p : ℕ) → several R items p ≡ true → p ∈ items
  many_item p h = let w = any_true (λ q. not (eqb q p)) (block_of R items p) h in
      go w.0 (eqb-false w.0 p (not-true (eqb w.0 p) w.2)) (in_block_lem R items p w.0 w.1).1
    where
      go : (q : ℕ) → (q ≡ p → ⊥) → Tog R items p q → p ∈ items
      go q d (inl e) = absurd (d (sym e))
      go q d (inr r) = last_in r.1

  -- all of a block have several in it
  pub many_all : (b q : ℕ) → b ∈ items → several R items b ≡ true → Tog R items b q → several R items q ≡ true
  many_all b q mb h r = go (ℕ_discrete b q)
    where
      go : Dec (b ≡ q) → several R items q ≡ true
      go (yes e) = subst (λ (z : ℕ). several R items z ≡ true) e h
      go (no e) = any_intro (λ x. not (eqb x q)) (block_of R items q) b (block_in R items q b mb (tog_sym R items b q r)) (ap not (ne_eqb b q e))

-- ---- what stands in the chain of g

-- x is a member that is alone in its block; or a value that is, or lies under, a member of a block of several
pub record Stands (t : List ℤ) (n g x : ℕ) : Type 0 where
  pub member : ℕ
  pub of : member ∈ members t n g
  pub inside : Within t member x
  pub how : ((member ≡ x) × (several (needs t n) (members t n g) x ≡ false)) ⊎ ((several (needs t n) (members t n g) member ≡ true) × (is_v t x ≡ true))

module _ (t : List ℤ) (n : ℕ) (ok : Accepted t n) (g : ℕ) where
  abbrev R : ℕ → ℕ → Bool
  R = needs t n

  abbrev items : List ℕ
  items = members t n g

  -- x is, or lies under, a member of b's block
  abbrev pub Held : ℕ → ℕ → Type 0
  Held b x = (q : ℕ) × (q ∈ members t n g) × Tog R items b q × Within t q x

  plan_value : (b x : ℕ) → x ∈ several_plan t n g b → is_v t x ≡ true
  plan_value b x i = value_of t n ok x (in_filter (in_block t n g b) x (values t n) (placed_sub (reaches t n) (block_values t n g b) x i)).0

  pub plan_label : (b x : ℕ) → x ∈ several_plan t n g b → (1 ≤ x) × (x ≤ n)
  plan_label b x i = def_label t n ok x (v_def t x (plan_value b x i))

  pub plan_once : (b x : ℕ) → count x (several_plan t n g b) ≤ 1
  plan_once b x = omega (arith, placed_le (reaches t n) (block_values t n g b) x, count_filter_le (in_block t n g b) x (values t n), values_once t n ok x)

  pub values_few : (b : ℕ) → length (block_values t n g b) ≤ n
  values_few b = omega (arith, filter_le (in_block t n g b) (values t n), filter_le (is_v t) (all_labels n), length_up_from 1 n)

  pub plan_held : (b x : ℕ) → x ∈ several_plan t n g b → Held b x
  plan_held b x i =
      let f = in_filter (in_block t n g b) x (values t n) (placed_sub (reaches t n) (block_values t n g b) x i) in
      let w = any_true (λ p. within t p x) (member_block t n g b) f.1 in
      let k = in_block_lem R items b w.0 w.1 in
      (w.0, k.0, k.1, within_sound t n ok w.0 x w.2)

  pub held : (b x : ℕ) → b ∈ members t n g → x ∈ expanded_block t n g b → Held b x
  held b x mb i = go (so_or_not (several R items b))
    where
      go : (several R items b ≡ true) ⊎ (several R items b ≡ false) → Held b x
      go (inl e) = plan_held b x (rw e at i)
      go (inr e) = (b, mb, tog_refl R items b, (0, in_single x b (rw e at i)))

  pub stands : (x : ℕ) → x ∈ expanded t n g → Stands t n g x
  stands x i = let w = in_joined (expanded_block t n g) x (ordered t n g) i in at w.0 (ordered_lead t n ok g w.0 w.1).0 w.2 (so_or_not (several R items w.0))
    where
      at : (b : ℕ) → b ∈ members t n g → x ∈ expanded_block t n g b → (several R items b ≡ true) ⊎ (several R items b ≡ false) → Stands t n g x
      at b mb j (inl e) =
          let j₁ : x ∈ several_plan t n g b = rw e at j in
          let h = plan_held b x j₁ in
          record { member = h.0; of = h.1; inside = h.3; how = inr (many_all R items b h.0 mb e h.2, plan_value b x j₁) }
      at b mb j (inr e) =
          let z : x ≡ b = in_single x b (rw e at j) in
          record { member = b; of = mb; inside = (0, z); how = inl (sym z, rw z e) }

  pub stands_def : (x : ℕ) → Stands t n g x → is_definition t x ≡ true
  stands_def x s = go s.how
    where
      go : ((s.member ≡ x) × (several R items x ≡ false)) ⊎ ((several R items s.member ≡ true) × (is_v t x ≡ true)) → is_definition t x ≡ true
      go (inl e) = subst (λ (z : ℕ). is_definition t z ≡ true) e.0 (member_of t n ok g s.member s.of).0
      go (inr e) = v_def t x e.1

  pub expanded_label : (x : ℕ) → x ∈ expanded t n g → (1 ≤ x) × (x ≤ n)
  expanded_label x i = def_label t n ok x (stands_def x (stands x i))

  pub block_label : (b x : ℕ) → b ∈ members t n g → x ∈ expanded_block t n g b → (1 ≤ x) × (x ≤ n)
  block_label b x mb i = go (so_or_not (several R items b))
    where
      go : (several R items b ≡ true) ⊎ (several R items b ≡ false) → (1 ≤ x) × (x ≤ n)
      go (inl e) = plan_label b x (rw e at i)
      go (inr e) = rw (in_single x b (rw e at i)) (def_label t n ok b (member_of t n ok g b mb).0)

  -- ---- each once

  -- two blocks have nothing in common
  pub held_apart : (b c x : ℕ) → b ∈ members t n g → c ∈ members t n g → is_leader R items b ≡ true → is_leader R items c ≡ true
      → (c ≡ b → ⊥) → Held b x → Held c x → ⊥
  held_apart b c x mb mc lb lc d hb hc = go (ℕ_discrete hb.0 hc.0)
    where
      go : Dec (hb.0 ≡ hc.0) → ⊥
      go (yes e) =
          d (leader_once R items c b mc mb lc lb (tog_trans R items c hc.0 b hc.2 (tog_sym R items b hc.0 (subst (λ (z : ℕ). Tog R items b z) e hb.2))))
      go (no e) =
          let p = member_of t n ok g hb.0 hb.1 in
          let q = member_of t n ok g hc.0 hc.1 in
          apart t n ok hb.0 hc.0 x (pos_of t n ok hb.0 p.0) (pos_of t n ok hc.0 q.0) (p.1 ∙ sym q.1) e hb.3 hc.3

  block_once : (b x : ℕ) → count x (expanded_block t n g b) ≤ 1
  block_once b x = go (so_or_not (several R items b))
    where
      go : (several R items b ≡ true) ⊎ (several R items b ≡ false) → count x (expanded_block t n g b) ≤ 1
      go (inl e) = rw e (plan_once b x)
      go (inr e) = rw e (single (ℕ_discrete x b))
        where
          single : Dec (x ≡ b) → count x (b ∷ []) ≤ 1
          single (yes z) = rw z (omega (arith, count_here b []))
          single (no z) = omega (arith, count_there x b [] z)

  pub expanded_once : (x : ℕ) → count x (expanded t n g) ≤ 1
  expanded_once x = go (zero_or_in (count x (expanded t n g)))
    where
      go : (count x (expanded t n g) ≡ 0) ⊎ (x ∈ expanded t n g) → count x (expanded t n g) ≤ 1
      go (inl e) = omega arith
      go (inr i) =
          let w = in_joined (expanded_block t n g) x (ordered t n g) i in
          let l = ordered_lead t n ok g w.0 w.1 in
          let e = joined_one (expanded_block t n g) x w.0 (ordered t n g) (ordered_once t n ok g w.0 l.0 l.1)
          (λ c mc d. none c mc w.0 d w.1 w.2 (zero_or_in (count x (expanded_block t n g c)))) in
          omega (arith, block_once w.0 x)
        where
          none : (c : ℕ) → c ∈ ordered t n g → (b : ℕ) → (c ≡ b → ⊥) → b ∈ ordered t n g → x ∈ expanded_block t n g b
              → (count x (expanded_block t n g c) ≡ 0) ⊎ (x ∈ expanded_block t n g c) → count x (expanded_block t n g c) ≡ 0
          none c mc b d mb ib (inl z) = z
          none c mc b d mb ib (inr j) =
              let lb = ordered_lead t n ok g b mb in
              let lc = ordered_lead t n ok g c mc in
              absurd (held_apart b c x lb.0 lc.0 lb.1 lc.1 d (held b x lb.0 ib) (held c x lc.0 j))

  pub expanded_few : length (expanded t n g) ≤ n
  expanded_few =
      let m = length_mono (expanded t n g) (all_labels n) (λ x. at x (zero_or_in (count x (expanded t n g)))) in
      omega (arith, length_up_from 1 n)
    where
      at : (x : ℕ) → (count x (expanded t n g) ≡ 0) ⊎ (x ∈ expanded t n g) → count x (expanded t n g) ≤ count x (all_labels n)
      at x (inl e) = omega arith
      at x (inr i) = let b = expanded_label x i in omega (arith, expanded_once x, in_labels t n ok x b.0 b.1)

  -- ---- where no block has several

  pub expanded_plain : group_tangled t n g ≡ false → expanded t n g ≡ ordered t n g
  expanded_plain f = joined_each (expanded_block t n g) (ordered t n g) (λ b m. rw (one_each t n ok g f b (ordered_lead t n ok g b m).0))

  -- ---- the list of the Group, given those of its Groups

  pub expanded_lists : (group : ℕ → List ℕ) → joined (block_listed t n g group) (ordered t n g) ≡ joined (listed t group) (expanded t n g)
  expanded_lists group =
      joined_same (block_listed t n g group) (λ b. joined (listed t group) (expanded_block t n g b)) (ordered t n g) (λ b m. each b (so_or_not (several R items b)))
      ∙ sym (joined_joined (listed t group) (expanded_block t n g) (ordered t n g))
    where
      each : (b : ℕ) → (several R items b ≡ true) ⊎ (several R items b ≡ false) → block_listed t n g group b ≡ joined (listed t group) (expanded_block t n g b)
      each b (inl e) = rw e (sym (joined_each (listed t group) (several_plan t n g b) (λ x i. rw (plan_value b x i))))
      each b (inr e) = rw e (sym (append-nil (listed t group b)))
