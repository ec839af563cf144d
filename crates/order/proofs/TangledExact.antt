-- The tests of order 2 are the relations: of needing, directly or through others, of being in one block, in a block of several, and that
-- some block has several.
use mathlib.Core.Path.{◌≡◌, ap}
use mathlib.Core.Logic.{inl, inr, ◌↔◌}
use mathlib.Core.List.{List}
use mathlib.Core.Bool.{Bool, true, not, ◌&&◌}
use Prim.Native.Nat.{ℕ, ◌≤◌}
use native.Mathlib.Omega.{arith}
use lib.Dec.{eqb, ltb}
use lib.IntN.{ℤ}
use borrow.Author.Tests.{eqb-false, ne_eqb, not-true, ltb-true}
use Rattle.cells.specs.Accepted.{Accepted}
use Rattle.order.specs.LabelLists.{◌∈◌}
use Rattle.order.specs.Closure.{closure}
use Rattle.order.specs.Blocks.{together, several, is_leader}
use Rattle.order.specs.Order.{is_g, all_labels, members, needs, member_block, group_tangled, sheet_tangled}
use Rattle.order.specs.Tangles.{MemberOf, NeedsDirectly, NeedsThrough, directly, through, OneBlock, Tangled, SomeTangled}
use Rattle.order.proofs.Tests.{not_so, and_left, and_right, and_intro}
use Rattle.order.proofs.Lists.{any_true, any_intro, any_refute}
use Rattle.order.proofs.Closure.{step, then}
use Rattle.order.proofs.Tables.{v_kind, kind_v, g_kind, kind_g, g_def, def_label, pos_of, in_labels, member_of, count_member, reaches_exact}
use Rattle.order.proofs.Needs.{holds_intro, holds_v, holds_in, needs_intro, needs_elim}
use Rattle.order.proofs.Blocks.{Onto, onto_step, onto_needs, onto_member, onto_item, onto_trans, needed_chain, Tog, tog_of, of_tog, in_block_lem, block_in, lead_smallest}

module _ (t : List ℤ) (n : ℕ) (ok : Accepted t n) where
  -- the test of needing is the relation
  pub needs_exact : (p q : ℕ) → 1 ≤ p → 1 ≤ q → (needs t n p q ≡ true) ↔ NeedsDirectly t p q
  needs_exact p q hp hq = (there, back)
    where
      there : needs t n p q ≡ true → NeedsDirectly t p q
      there h =
          let k = needs_elim t n ok p q h in
          let x = k.1.0 in
          let y = k.1.1 in
          record {
            other = k.0;
            mine = x;
            yours = y;
            mine_value = v_kind t x (holds_v t n ok p x k.1.2);
            mine_within = holds_in t n ok p x k.1.2;
            yours_value = v_kind t y (holds_v t n ok q y k.1.3);
            yours_within = holds_in t n ok q y k.1.3;
            reach = (reaches_exact t n ok x y).0 k.1.4;
          }

      back : NeedsDirectly t p q → needs t n p q ≡ true
      back k = needs_intro t n ok p q k.mine k.yours k.other (holds_intro t n ok p k.mine hp (kind_v t k.mine k.mine_value) k.mine_within)
          (holds_intro t n ok q k.yours hq (kind_v t k.yours k.yours_value) k.yours_within) ((reaches_exact t n ok k.mine k.yours).1 k.reach)

module _ (t : List ℤ) (n : ℕ) (ok : Accepted t n) (g : ℕ) where
  abbrev R : ℕ → ℕ → Bool
  R = needs t n

  abbrev items : List ℕ
  items = members t n g

  -- ---- members

  pub member_in : (p : ℕ) → MemberOf t g p → p ∈ members t n g
  member_in p (d, e) = omega (arith, count_member t n ok g p d e)

  pub member_pos : (p : ℕ) → p ∈ members t n g → 1 ≤ p
  member_pos p m = pos_of t n ok p (member_of t n ok g p m).0

  pub chain_through : {p q : ℕ} → 1 ≤ p → Onto (needs t n) (members t n g) p q → NeedsThrough t g p q
  chain_through {p} {q} h (step s) =
      let m = onto_member R items p q s in
      directly (member_of t n ok g q m) ((needs_exact t n ok p q h (member_pos q m)).0 (onto_needs R items p q s))
  chain_through {p} {q} h (then {c = c} r s) =
      let m = onto_member R items c q s in
      through (chain_through h r) (member_of t n ok g q m)
      ((needs_exact t n ok c q (member_pos c (onto_item R items r)) (member_pos q m)).0 (onto_needs R items c q s))

  pub through_chain : {p q : ℕ} → 1 ≤ p → NeedsThrough t g p q → Onto (needs t n) (members t n g) p q
  through_chain {p} {q} h (directly m k) = onto_step R items p q (member_in q m) ((needs_exact t n ok p q h (pos_of t n ok q m.0)).1 k)
  through_chain {p} {q = r} h (through {q = q} c m k) =
      onto_trans R items p q r (through_chain h c) (onto_step R items q r (member_in r m) ((needs_exact t n ok q r (last c) (pos_of t n ok r m.0)).1 k))
    where
      last : {q : ℕ} → NeedsThrough t g p q → 1 ≤ q
      last {q} (directly m k) = pos_of t n ok q m.0
      last {q = r} (through {q = q} c m k) = pos_of t n ok r m.0

  -- `closure R items p` holds exactly what p needs directly or through other members
  pub needed_exact : (p q : ℕ) → 1 ≤ p → (q ∈ closure (needs t n) (members t n g) p) ↔ NeedsThrough t g p q
  needed_exact p q h = (λ m. chain_through h ((needed_chain R items p q).0 m), λ r. (needed_chain R items p q).1 (through_chain h r))

  pub tog_block : (p q : ℕ) → 1 ≤ p → 1 ≤ q → Tog (needs t n) (members t n g) p q → OneBlock t g p q
  tog_block p q hp hq (inl e) = inl e
  tog_block p q hp hq (inr r) = inr (chain_through hp r.0, chain_through hq r.1)

  pub block_tog : (p q : ℕ) → 1 ≤ p → 1 ≤ q → OneBlock t g p q → Tog (needs t n) (members t n g) p q
  block_tog p q hp hq (inl e) = inl e
  block_tog p q hp hq (inr r) = inr (through_chain hp r.0, through_chain hq r.1)

  -- the test is the relation
  pub together_exact : (p q : ℕ) → 1 ≤ p → 1 ≤ q → (together (needs t n) (members t n g) p q ≡ true) ↔ OneBlock t g p q
  together_exact p q hp hq = (λ h. tog_block p q hp hq (tog_of R items p q h), λ b. of_tog R items p q (block_tog p q hp hq b))

  -- so is that of being in a block of several
  pub several_exact : (p : ℕ) → 1 ≤ p → (several (needs t n) (members t n g) p ≡ true) ↔ Tangled t g p
  several_exact p hp = (there, back)
    where
      there : several R items p ≡ true → Tangled t g p
      there h =
          let w = any_true (λ q. not (eqb q p)) (member_block t n g p) h in
          let i = in_block_lem R items p w.0 w.1 in
          (w.0, eqb-false w.0 p (not-true (eqb w.0 p) w.2), member_of t n ok g w.0 i.0, tog_block p w.0 hp (member_pos w.0 i.0) i.1)

      back : Tangled t g p → several R items p ≡ true
      back (q, d, m, b) =
          any_intro (λ q. not (eqb q p)) (member_block t n g p) q (block_in R items p q (member_in q m) (block_tog p q hp (pos_of t n ok q m.0) b)) (ap not (ne_eqb q p d))

  -- the test of leading a block finds the smallest label that it holds
  pub leader_exact : (p : ℕ) → MemberOf t g p → (is_leader (needs t n) (members t n g) p ≡ true) ↔ ((q : ℕ) → MemberOf t g q → OneBlock t g p q → p ≤ q)
  leader_exact p m = (there, back)
    where
      hp : 1 ≤ p
      hp = pos_of t n ok p m.0

      there : is_leader R items p ≡ true → (q : ℕ) → MemberOf t g q → OneBlock t g p q → p ≤ q
      there l q k b = lead_smallest R items p q l (member_in q k) (block_tog p q hp (pos_of t n ok q k.0) b)

      back : ((q : ℕ) → MemberOf t g q → OneBlock t g p q → p ≤ q) → is_leader R items p ≡ true
      back h = ap not (any_refute (λ q. ltb q p) (member_block t n g p) (λ q i.
          let w = in_block_lem R items p q i in
          let l = h q (member_of t n ok g q w.0) (tog_block p q hp (member_pos q w.0) w.1) in
          not_so (ltb q p) (λ s. omega (arith, ltb-true q p s, l))))

-- some block of some Group has several members: the test is the relation
pub tangled_exact : (t : List ℤ) (n : ℕ) → Accepted t n → (sheet_tangled t n ≡ true) ↔ SomeTangled t
tangled_exact t n ok = (there, back)
  where
    there : sheet_tangled t n ≡ true → SomeTangled t
    there h =
        let w = any_true (λ g. is_g t g && group_tangled t n g) (all_labels n) h in
        let g = w.0 in
        let u = any_true (several (needs t n) (members t n g)) (members t n g) (and_right (is_g t g) (group_tangled t n g) w.2) in
        let p = u.0 in
        (g, p, g_kind t g (and_left (is_g t g) (group_tangled t n g) w.2), member_of t n ok g p u.1, (several_exact t n ok g p (member_pos t n ok g p u.1)).0 u.2)

    back : SomeTangled t → sheet_tangled t n ≡ true
    back (g, p, k, m, s) =
        let ig = kind_g t g k in
        let b = def_label t n ok g (g_def t g ig) in
        any_intro (λ g. is_g t g && group_tangled t n g) (all_labels n) g (in_labels t n ok g b.0 b.1)
        (and_intro (is_g t g) (group_tangled t n g) ig
        (any_intro (several (needs t n) (members t n g)) (members t n g) p (member_in t n ok g p m) ((several_exact t n ok g p (pos_of t n ok p m.0)).1 s)))
