-- Where a block has several members, no proper order has the values of every one of them consecutive; so none is whole.
use mathlib.Core.Path.{◌≡◌, refl, sym, ◌∙◌, subst}
use mathlib.Core.Logic.{inl, inr}
use mathlib.Core.List.{List}
use mathlib.Core.Bool.{Bool, true}
use Prim.Native.Nat.{ℕ, ◌≤◌, ◌<◌}
use native.Mathlib.Omega.{arith}
use native.Mathlib.Decide.{ℕ_discrete}
use lib.IntN.{ℤ}
use Rattle.kinds.specs.Kinds.{group_code}
use Rattle.cells.specs.Table.{kind, owner}
use Rattle.cells.specs.Accepted.{Accepted}
use Rattle.order.specs.LabelLists.{◌∈◌}
use Rattle.order.specs.Order.{is_g, members, Within, within, Proper, Consecutive, Whole, needs}
use Rattle.order.specs.Tangles.{MemberOf, NeedsThrough, directly, through, OneBlock, Tangled, SomeTangled, ClearSideBySide}
use Rattle.order.proofs.Closure.{step, then}
use Rattle.order.proofs.Joined.{ahead}
use Rattle.order.proofs.Tables.{kind_v, g_kind, g_def, kind_g, pos_of, member_of, owner_group}
use Rattle.order.proofs.Needs.{holds, holds_intro, needs_elim}
use Rattle.order.proofs.Begins.{side, begins}
use Rattle.order.proofs.Blocks.{Onto, onto_needs, onto_member, onto_item, onto_trans, Tog}
use Rattle.order.proofs.TangledExact.{tog_block, block_tog, member_in, member_pos}

module _ (t : List ℤ) (n : ℕ) (ok : Accepted t n) (o : List ℕ) (po : Proper t o) where
  -- ---- the members of p's block begin one behind the other, round and round

  module _ (g p : ℕ) (all : (q : ℕ) → q ∈ members t n g → Tog (needs t n) (members t n g) p q → Consecutive (Within t q) o) where
    abbrev R : ℕ → ℕ → Bool
    R = needs t n

    abbrev items : List ℕ
    items = members t n g

    fall : (c e : ℕ) → c ∈ members t n g → e ∈ members t n g → Tog R items p c → needs t n c e ≡ true → ahead (within t e) o < ahead (within t c) o
    fall c e mc me tc h =
        let dc = member_of t n ok g c mc in
        let de = member_of t n ok g e me in
        let k = needs_elim t n ok c e h in
        begins t n ok o po c e k.1.0 k.1.1 dc.0 de.0 (dc.1 ∙ sym de.1) k.0 k.1.2 k.1.3 k.1.4 (all c mc tc)

    falls : {a b : ℕ} → a ∈ members t n g → Tog R items p a → Onto R items a b → Onto R items b p → ahead (within t b) o < ahead (within t a) o
    falls {a} {b} ma ta (step s) back = fall a b ma (onto_member R items a b s) ta (onto_needs R items a b s)
    falls {a} {b} ma ta (then {c = c} r s) back =
        omega (arith, falls ma ta r home, fall c b (onto_item R items r) (onto_member R items c b s) (inr (from ta, home)) (onto_needs R items c b s))
      where
        home : Onto R items c p
        home = onto_trans R items c b p (step s) back

        from : Tog R items p a → Onto R items p c
        from (inl e) = subst (λ (z : ℕ). Onto R items z c) (sym e) r
        from (inr w) = onto_trans R items p a c w.0 r

    no_round : (q : ℕ) → p ∈ members t n g → q ∈ members t n g → (q ≡ p → ⊥) → Tog R items p q → ⊥
    no_round q mp mq d (inl e) = d (sym e)
    no_round q mp mq d (inr w) =
        omega (arith, falls mp (inl refl) w.0 w.1, falls mq (inr w) w.1 (onto_trans R items p q p w.0 w.1))

  -- no proper order has the values of every member of a block of several consecutive
  pub several_apart : (g p : ℕ) → MemberOf t g p → Tangled t g p → ((q : ℕ) → MemberOf t g q → OneBlock t g p q → Consecutive (Within t q) o) → ⊥
  several_apart g p m (q, d, k, b) all =
      no_round g p (λ q mq r. all q (member_of t n ok g q mq) (tog_block t n ok g p q hp (member_pos t n ok g q mq) r)) q (member_in t n ok g p m) (member_in t n ok g q k) d
      (block_tog t n ok g p q hp (pos_of t n ok q k.0) b)
    where
      hp : 1 ≤ p
      hp = pos_of t n ok p m.0

  -- a member that needs another holds a value
  through_holds : {g p q : ℕ} → 1 ≤ p → NeedsThrough t g p q → (x : ℕ) × (holds t p x ≡ true)
  through_holds {g} {p} h (directly m k) = (k.mine, holds_intro t n ok p k.mine h (kind_v t k.mine k.mine_value) k.mine_within)
  through_holds {g} {p} h (through c m k) = through_holds h c

  -- so no block has several where a proper order is whole
  pub whole_untangled : Whole t o → SomeTangled t → ⊥
  whole_untangled w (g, p, k, m, s) = several_apart g p m s each
    where
      member_side : (q r : ℕ) → MemberOf t g q → NeedsThrough t g q r → Consecutive (Within t q) o
      member_side q r mq c = let x = through_holds (pos_of t n ok q mq.0) c in side t n ok o po w q x.0 mq.0 x.1

      mine : (q : ℕ) → (q ≡ p → ⊥) → OneBlock t g p q → Consecutive (Within t p) o
      mine q d (inl e) = absurd (d (sym e))
      mine q d (inr c) = member_side p q m c.0

      each : (q : ℕ) → MemberOf t g q → OneBlock t g p q → Consecutive (Within t q) o
      each q mq (inl e) = subst (λ (z : ℕ). Consecutive (Within t z) o) e (mine s.0 s.1 s.3)
      each q mq (inr c) = member_side q p mq c.1

module _ (t : List ℤ) (n : ℕ) (ok : Accepted t n) where
  -- label 1 has no other beside it
  not_top : (p : ℕ) → is_g t p ≡ true → Tangled t (owner t p) p → kind t (owner t p) ≡ group_code
  not_top p gp (q, d, m, b) = go (ℕ_discrete p 1)
    where
      hp : 1 ≤ p
      hp = pos_of t n ok p (g_def t p gp)

      hq : 1 ≤ q
      hq = pos_of t n ok q m.0

      go : Dec (p ≡ 1) → kind t (owner t p) ≡ group_code
      go (no z) = g_kind t (owner t p) (owner_group t n ok p (g_def t p gp) (omega (arith, hp)))
      go (yes z) =
          let two : 2 ≤ q = other (ℕ_discrete q 1) in
          g_kind t (owner t p) (subst (λ (g : ℕ). is_g t g ≡ true) m.1 (owner_group t n ok q m.0 two))
        where
          other : Dec (q ≡ 1) → 2 ≤ q
          other (yes y) = absurd (d (y ∙ sym z))
          other (no y) = omega (arith, hq)

  -- where no block has several, an order that is side by side where it has to be is whole
  pub clear_whole : (o : List ℕ) → ClearSideBySide t o → (SomeTangled t → ⊥) → Whole t o
  clear_whole o clear untangled g k = clear g k (λ p kp u s.
      let gp = kind_g t p kp in
      untangled (owner t p, p, not_top p gp s, (g_def t p gp, refl), s))
