-- A step of the pass: what a line's uses make of the table, whatever comes after it, and in a table that passes rows 8 and 9.
use mathlib.Core.Path.{◌≡◌, refl, ap, sym, ◌∙◌}
use mathlib.Core.Logic.{◌⊎◌, inl, inr, ⊎_elim}
use mathlib.Core.Bool.{Bool, true, false, cond}
use mathlib.Core.List.{List}
use Prim.Native.Nat.{ℕ, ◌+◌, ◌-◌, ◌*◌, ◌≤◌, ◌<◌}
use native.Mathlib.Omega.{arith}
use native.Mathlib.Nat.{eq-or-lt_of_le}
use borrow.Author.Tests.{le-leb, lt-leb, leb-true, leb-false, eq-eqb, eqb-true, eqb-false}
use lib.Dec.{leb, eqb}
use lib.IntN.{ℤ, pos}
use lib.ListN.{length, set}
use Rattle.cells.specs.Limits.{label_limit}
use Rattle.kinds.proofs.Laws.{not_expression, either}
use Rattle.cells.specs.Lists.{one, count}
use Rattle.cells.specs.Table.{cell, kind, is_definition, is_expression, field_a, owner, target}
use Rattle.cells.proofs.Signed.{clash}
use Rattle.cells.proofs.Table.{cell_put, cell_other}
use Rattle.tree.specs.Tree.{parts, IsPart, user_of, owner_of, level_of}
use Rattle.tree.specs.Treed.{Formed}
use Rattle.std.specs.Prelude.{Option, Some, None}
use Rattle.tree.specs.TreeSteps.{HasCells, Node, node_at, assigned, claimed, claimed_all, propagated, HasPart, Inside, UsedOnce, Natural, Over, turn_of, level_left, Propagated}
use Rattle.tree.proofs.Codes.{expression_kind, label_low, label_high}
use Rattle.tree.proofs.Users.{user_some}
use Rattle.tree.proofs.Labels.{node_definition, counted, node_count, claimed_first, propagated_definition, propagated_expression}
use Rattle.tree.proofs.Owners as own
use Rattle.tree.proofs.Writes.{over_start, over_alike, alike_node, alike_formed, over_set, assigned_length, assigned_other, assigned_owner, assigned_level, over_assigned}
use Rattle.tree.proofs.Writes.{Claimed, Within, within_placed, claimed_length, claimed_low, claimed_claims, over_claimed}

module _ (t : List ℤ) (n : ℕ) (w : List ℤ) (o : Over t n w) where
  pub over_formed : Formed t n → Formed w n
  over_formed s = alike_formed t w (over_alike t w n o) n o.size s

  pub node_over : (l : ℕ) → node_at w l ≡ node_at t l
  node_over l = alike_node t w (over_alike t w n o) l

-- ---- a part's owner and level

abbrev pub part_assigned : Option ℕ → ℕ → ℕ → List ℤ → List ℤ
part_assigned None d v t = t
part_assigned (Some x) d v t = assigned x d v t

module _ (d v : ℕ) (w : List ℤ) where
  part_length : (p : Option ℕ) → length (part_assigned p d v w) ≡ length w
  part_length None = refl
  part_length (Some x) = assigned_length x d v w

  part_other : (p : Option ℕ) → HasPart w p → (y j : ℕ) → j < 8 → (p ≡ Some y → ⊥) → cell (part_assigned p d v w) y j ≡ cell w y j
  part_other None has y j h g = refl
  part_other (Some x) has y j h g = assigned_other x d v w y j h (λ e. g (ap Some (sym e)))

  -- a first use
  part_first : (p : Option ℕ) → ((x : ℕ) → p ≡ Some x → owner w x ≡ 0) → claimed p d v w ≡ part_assigned p d v w
  part_first None h = refl
  part_first (Some x) h = claimed_first x w d v (h x refl)

-- ---- the parts of a line are labels

module _ (t : List ℤ) (l : ℕ) where
  own_one : (x : ℕ) → one (eqb x x) ≡ 1
  own_one x = rw (eq-eqb x x refl)

  part_here : (x : ℕ) (p : Option ℕ) → p ≡ Some x → counted x p ≡ 1
  part_here x p e = rw e (own_one x)

  node_a : (x : ℕ) → (node_at t l).a ≡ Some x → IsPart t l x
  node_a x e = omega (arith, node_count t l x, part_here x (node_at t l).a e)

  node_b : (x : ℕ) → (node_at t l).b ≡ Some x → IsPart t l x
  node_b x e = omega (arith, node_count t l x, part_here x (node_at t l).b e)

  node_c : (x : ℕ) → (node_at t l).c ≡ Some x → IsPart t l x
  node_c x e = omega (arith, node_count t l x, part_here x (node_at t l).c e)

module _ (t : List ℤ) (n : ℕ) (s : Formed t n) (l : ℕ) (part : (x : ℕ) → IsPart t l x → is_expression t x ≡ true) where
  part_within : (p : Option ℕ) → ((x : ℕ) → p ≡ Some x → IsPart t l x) → Within n p
  part_within None h = tt
  part_within (Some x) h = let k = expression_kind t x (part x (h x refl)) in (label_low t x n s k, label_high t x n s k)

  node_within : Within n (node_at t l).a × Within n (node_at t l).b × Within n (node_at t l).c
  node_within = (part_within (node_at t l).a (node_a t l), part_within (node_at t l).b (node_b t l), part_within (node_at t l).c (node_c t l))

  pub placed : (w : List ℤ) → length w ≡ length t → (p : Option ℕ) → Within n p → HasPart w p
  placed w e p h = within_placed n w p (omega (arith, s.room)) h

  pub inside : (w : List ℤ) → length w ≡ length t → Inside w (node_at t l)
  inside w e =
      let m = node_within in
      record { a = placed w e (node_at t l).a m.0; b = placed w e (node_at t l).b m.1; c = placed w e (node_at t l).c m.2 }

  -- ---- they are used, from a table u in which their rows stand

  module _ (d v : ℕ) (u : List ℤ) (o : Over t n u) where
    abbrev p : Node
    p = node_at t l

    abbrev one_claimed : List ℤ
    one_claimed = claimed p.a d v u

    abbrev two_claimed : List ℤ
    two_claimed = claimed p.b d v one_claimed

    has_a : HasPart u p.a
    has_a = (inside u o.size).a

    has_b : HasPart one_claimed p.b
    has_b = (inside one_claimed (claimed_length d v u p.a ∙ o.size)).b

    has_c : HasPart two_claimed p.c
    has_c = (inside two_claimed (claimed_length d v one_claimed p.b ∙ claimed_length d v u p.a ∙ o.size)).c

    pub parts_over : Over t n (claimed_all p d v u)
    parts_over =
        let m = node_within in
        over_claimed t two_claimed n s.room (over_claimed t one_claimed n s.room (over_claimed t u n s.room o p.a d v m.0) p.b d v m.1) p.c d v m.2

    pub parts_low : (y m : ℕ) → target u y ≤ m → v ≤ m → target (claimed_all p d v u) y ≤ m
    parts_low y m h g = claimed_low d v two_claimed p.c has_c y m (claimed_low d v one_claimed p.b has_b y m (claimed_low d v u p.a has_a y m h g) g) g

    pub parts_claims : (y k : ℕ) → 1 ≤ d → d ≤ label_limit → Claimed k (owner u y) → Claimed (k + count y (parts t l)) (owner (claimed_all p d v u) y)
    parts_claims y k h g c =
        let e : k + count y (parts t l) ≡ k + counted y p.a + counted y p.b + counted y p.c = omega (arith, node_count t l y) in
        let ka = k + counted y p.a in
        let kb = ka + counted y p.b in
        rw e (claimed_claims d v two_claimed p.c has_c y kb h g (claimed_claims d v one_claimed p.b has_b y ka h g (claimed_claims d v u p.a has_a y k h g c)))

    -- ---- for the first time

    module _ (fresh : (y : ℕ) → IsPart t l y → (owner u y ≡ 0) × (count y (parts t l) ≡ 1)) where
      abbrev one_assigned : List ℤ
      one_assigned = part_assigned p.a d v u

      abbrev two_assigned : List ℤ
      two_assigned = part_assigned p.b d v one_assigned

      pub assigned_b : HasPart one_assigned p.b
      assigned_b = (inside one_assigned (part_length d v u p.a ∙ o.size)).b

      pub assigned_c : HasPart two_assigned p.c
      assigned_c = (inside two_assigned (part_length d v one_assigned p.b ∙ part_length d v u p.a ∙ o.size)).c

      -- no label stands in two fields
      apart : (x : ℕ) → IsPart t l x → 2 ≤ count x (parts t l) → ⊥
      apart x i h = omega (arith, (fresh x i).1, h)

      a_b : (x : ℕ) → p.b ≡ Some x → p.a ≡ Some x → ⊥
      a_b x e f = apart x (node_b t l x e) (omega (arith, node_count t l x, part_here t l x p.a f, part_here t l x p.b e))

      a_c : (x : ℕ) → p.c ≡ Some x → p.a ≡ Some x → ⊥
      a_c x e f = apart x (node_c t l x e) (omega (arith, node_count t l x, part_here t l x p.a f, part_here t l x p.c e))

      b_c : (x : ℕ) → p.c ≡ Some x → p.b ≡ Some x → ⊥
      b_c x e f = apart x (node_c t l x e) (omega (arith, node_count t l x, part_here t l x p.b f, part_here t l x p.c e))

      pub parts_first : claimed_all p d v u ≡ part_assigned p.c d v two_assigned
      parts_first =
          let fa = part_first d v u p.a (λ x e. (fresh x (node_a t l x e)).0) in
          let fb = part_first d v one_assigned p.b (λ x e. part_other d v u p.a has_a x 6 (omega arith) (a_b x e) ∙ (fresh x (node_b t l x e)).0) in
          let fc = part_first d v two_assigned p.c (λ x e.
          part_other d v one_assigned p.b assigned_b x 6 (omega arith) (b_c x e) ∙ part_other d v u p.a has_a x 6 (omega arith) (a_c x e) ∙ (fresh x (node_c t l x e)).0) in
          ap (λ (w : List ℤ). claimed p.c d v (claimed p.b d v w)) fa ∙ ap (λ (w : List ℤ). claimed p.c d v w) fb ∙ fc

-- ---- owners and levels

abbrev Right : List ℤ → ℕ → ℕ → List ℤ → ℕ → Type 0
Right t n j w x = (owner w x ≡ owner_of t n x) × (target w x ≡ level_left t n j x)

pub left_above : (t : List ℤ) (n j x : ℕ) → j < x → level_left t n j x ≡ level_of t n x
left_above t n j x h = rw (lt-leb x j h)

-- a label that gets its owner and level has them, and no label that had them loses them
module _ (t : List ℤ) (n j : ℕ) where
  assigned_right : (w : List ℤ) (p : Option ℕ) (d v y m : ℕ) → HasPart w p → ((x : ℕ) → p ≡ Some x → (d ≡ owner_of t n x) × (v ≡ level_left t n j x))
      → Right t n j w y ⊎ (1 ≤ counted y p + m) → Right t n j (part_assigned p d v w) y ⊎ (1 ≤ m)
  assigned_right w None d v y m has right c = ⊎_elim (λ z. inl z) (λ z. inr (omega arith)) c
  assigned_right w (Some x) d v y m has right c = go (eqb y x) refl c
    where
      here : x ≡ y → Right t n j (assigned x d v w) y
      here e = rw (sym e) (assigned_owner x d v w has ∙ (right x refl).0, assigned_level x d v w has ∙ (right x refl).1)

      there : (x ≡ y → ⊥) → Right t n j w y → Right t n j (assigned x d v w) y
      there e q =
          (assigned_other x d v w y 6 (omega arith) (λ z. e (sym z)) ∙ q.0, assigned_other x d v w y 7 (omega arith) (λ z. e (sym z)) ∙ q.1)

      go : (b : Bool) → eqb y x ≡ b → Right t n j w y ⊎ (1 ≤ one b + m) → Right t n j (assigned x d v w) y ⊎ (1 ≤ m)
      go true e q = inl (here (sym (eqb-true y x e)))
      go false e q = ⊎_elim (λ z. inl (there (λ f. eqb-false y x e (sym f)) z)) (λ z. inr (omega arith)) q

pub propagate_start : (t : List ℤ) (n : ℕ) → UsedOnce t n → Natural t n → Propagated t n 0 0 t
propagate_start t n s natural = record {
  over = over_start t n natural;
  owners = λ x h g e. absurd (late x h (is_expression t x) refl e);
  levels = λ x h g e. absurd (late x h (is_expression t x) refl e);
}
  where
    late : (x : ℕ) → 1 ≤ x → (b : Bool) → is_expression t x ≡ b → turn_of t n x ≤ 0 → ⊥
    late x h true e q =
        let z : user_of t n x ≤ 0 = rw e at q in
        omega (arith, (user_some t x n (omega (arith, s.once x e))).low)
    late x h false e q = let z : x ≤ 0 = rw e at q in omega arith

module _ (t : List ℤ) (n : ℕ) (s : UsedOnce t n) (w : List ℤ) (l : ℕ) (h : 1 ≤ l) (g : l ≤ n) (r : Propagated t n (l - 1) (l - 1) w)
    (fresh : (y : ℕ) → IsPart t l y → (owner w y ≡ 0) × (count y (parts t l) ≡ 1)) where
  abbrev formed : Formed t n
  formed = s.structure.formed

  definition_over : (node_at w l).definition ≡ is_definition t l
  definition_over = ap (λ (p : Node). p.definition) (node_over t n w r.over l) ∙ node_definition t l

  group_over : field_a w l ≡ field_a t l
  group_over = over_alike t w n r.over l 3 (omega arith)

  -- an expression's own owner and level are there already
  module _ (e : is_expression t l ≡ true) where
    early : turn_of t n l ≤ l - 1
    early = rw e (omega (arith, own.user_below t n s l e))

    owner_there : owner w l ≡ owner_of t n l
    owner_there = r.owners l h g early

    level_there : target w l ≡ level_of t n l
    level_there = r.levels l h g early ∙ left_above t n (l - 1) l (omega arith)

  expression_else : (node_at w l).definition ≡ false → is_expression t l ≡ true
  expression_else e = ⊎_elim (λ d. clash (sym d ∙ sym definition_over ∙ e)) (λ f. f) (either (kind t l) (formed.kinds l h g))

  -- whose turn came by l: it had come before, or it is l itself, or a part of l
  due : (y : ℕ) → turn_of t n y ≤ l → (turn_of t n y ≤ l - 1) ⊎ (((y ≡ l) × (is_expression t y ≡ false)) ⊎ IsPart t l y)
  due y q = go (is_expression t y) refl q
    where
      go : (b : Bool) → is_expression t y ≡ b → cond b (user_of t n y) y ≤ l → (cond b (user_of t n y) y ≤ l - 1) ⊎ (((y ≡ l) × (is_expression t y ≡ false)) ⊎ IsPart t l y)
      go true e m = ⊎_elim (λ z. inr (inr (rw z at (own.user t n s y e).part))) (λ z. inl (omega arith)) (eq-or-lt_of_le m)
      go false e m = ⊎_elim (λ z. inr (inl (z, e))) (λ z. inl (omega arith)) (eq-or-lt_of_le m)

  -- the parts get what they are due, from a table u in which their rows stand
  module _ (d v : ℕ) (right : (x : ℕ) → IsPart t l x → (d ≡ owner_of t n x) × (v ≡ level_of t n x)) (u : List ℤ) (o : Over t n u)
      (same : (y : ℕ) → IsPart t l y → owner u y ≡ owner w y) where
    abbrev q : Node
    q = node_at t l

    expressions : (x : ℕ) → IsPart t l x → is_expression t x ≡ true
    expressions = own.part_expression t n s l

    fresh_here : (y : ℕ) → IsPart t l y → (owner u y ≡ 0) × (count y (parts t l) ≡ 1)
    fresh_here y p = (same y p ∙ (fresh y p).0, (fresh y p).1)

    right_left : (x : ℕ) → IsPart t l x → (d ≡ owner_of t n x) × (v ≡ level_left t n (l - 1) x)
    right_left x p = ((right x p).0, (right x p).1 ∙ sym (left_above t n (l - 1) x (omega (arith, (s.structure.part l x p).0))))

    parts_right : (y : ℕ) → Right t n (l - 1) u y ⊎ IsPart t l y → Right t n (l - 1) (claimed_all q d v u) y
    parts_right y c =
        let ua = part_assigned q.a d v u in
        let ub = part_assigned q.b d v ua in
        let c0 : Right t n (l - 1) u y ⊎ (1 ≤ counted y q.a + (counted y q.b + (counted y q.c + 0))) = ⊎_elim (λ z. inl z) (λ z. inr (omega (arith, node_count t l y))) c in
        let i = inside t n formed l expressions u o.size in
        let c1 = assigned_right t n (l - 1) u q.a d v y (counted y q.b + (counted y q.c + 0)) i.a (λ x z. right_left x (node_a t l x z)) c0 in
        let c2 = assigned_right t n (l - 1) ua q.b d v y (counted y q.c + 0) (assigned_b t n formed l expressions d v u o fresh_here) (λ x z. right_left x (node_b t l x z)) c1 in
        let c3 = assigned_right t n (l - 1) ub q.c d v y 0 (assigned_c t n formed l expressions d v u o fresh_here) (λ x z. right_left x (node_c t l x z)) c2 in
        rw (parts_first t n formed l expressions d v u o fresh_here) (⊎_elim (λ z. z) (λ z. absurd (omega arith)) c3)

    propagated_so : ((y : ℕ) → 1 ≤ y → y ≤ n → (turn_of t n y ≤ l - 1) ⊎ ((y ≡ l) × (is_expression t y ≡ false)) → Right t n (l - 1) u y)
        → Propagated t n l (l - 1) (claimed_all q d v u)
    propagated_so before = record {
      over = parts_over t n formed l expressions d v u o;
      owners = λ y a b q. (all y a b q).0;
      levels = λ y a b q. (all y a b q).1;
    }
      where
        all : (y : ℕ) → 1 ≤ y → y ≤ n → turn_of t n y ≤ l → Right t n (l - 1) (claimed_all q d v u) y
        all y a b q =
            ⊎_elim (λ z. parts_right y (inl (before y a b (inl z))))
            (λ z. ⊎_elim (λ f. parts_right y (inl (before y a b (inr f)))) (λ f. parts_right y (inr f)) z) (due y q)

  before_right : (y : ℕ) → 1 ≤ y → y ≤ n → turn_of t n y ≤ l - 1 → Right t n (l - 1) w y
  before_right y a b q = (r.owners y a b q, r.levels y a b q)

  turn_definition : is_definition t l ≡ true → Propagated t n l (l - 1) (claimed_all (node_at t l) l 1 (assigned l (field_a t l) 0 w))
  turn_definition d =
      propagated_so l 1 (λ x q. (sym (own.body_owner t n s l x d q), sym (own.body_level t n s l x d q))) (assigned l (field_a t l) 0 w)
      (over_assigned t w n formed.room r.over l (field_a t l) 0 g)
      (λ y q. assigned_other l (field_a t l) 0 w y 6 (omega arith) (λ e. omega (arith, (s.structure.part l y q).0)))
      settled
    where
      has : HasCells w l
      has = (h, omega (arith, r.over.size, formed.room))

      right : (x : ℕ) → Some l ≡ Some x → (field_a t l ≡ owner_of t n x) × (0 ≡ level_left t n (l - 1) x)
      right x z =
          let e : l ≡ x = cc in
          let f = not_expression (kind t l) d in
          rw (sym e) (sym (own.owner_group t n l f), sym (left_above t n (l - 1) l (omega arith) ∙ own.level_own t n l f))

      this : (y : ℕ) → (y ≡ l) × (is_expression t y ≡ false) → 1 ≤ one (eqb y l) + 0
      this y z = rw (eq-eqb y l z.0) (omega arith)

      settled : (y : ℕ) → 1 ≤ y → y ≤ n → (turn_of t n y ≤ l - 1) ⊎ ((y ≡ l) × (is_expression t y ≡ false)) → Right t n (l - 1) (assigned l (field_a t l) 0 w) y
      settled y a b c =
          ⊎_elim (λ z. z) (λ z. absurd (omega arith))
          (assigned_right t n (l - 1) w (Some l) (field_a t l) 0 y 0 has right (⊎_elim (λ z. inl (before_right y a b z)) (λ z. inr (this y z)) c))

  turn_expression : is_expression t l ≡ true → Propagated t n l (l - 1) (claimed_all (node_at t l) (owner w l) (target w l + 1) w)
  turn_expression e =
      propagated_so (owner w l) (target w l + 1)
      (λ x q. (owner_there e ∙ own.owner_standing t n l e ∙ sym (own.part_owner t n s l x q), omega (arith, level_there e, own.part_level t n s l x q))) w r.over (λ y q. refl)
      (λ y a b c. ⊎_elim (λ z. before_right y a b z) (λ z. clash (sym e ∙ ap (is_expression t) (sym z.0) ∙ z.1)) c)

  pub propagate_turn : Propagated t n l (l - 1) (propagated l w)
  propagate_turn = go (is_definition t l) refl
    where
      go : (b : Bool) → is_definition t l ≡ b → Propagated t n l (l - 1) (propagated l w)
      go true d = rw (propagated_definition l w (definition_over ∙ d), node_over t n w r.over l, group_over) (turn_definition d)
      go false d = rw (propagated_expression l w (definition_over ∙ d), node_over t n w r.over l) (turn_expression (expression_else (definition_over ∙ d)))

-- the owner and level of a label are there when its turn has come
module _ (t : List ℤ) (n : ℕ) (s : UsedOnce t n) (w : List ℤ) (l j : ℕ) (h : 1 ≤ l) (g : l ≤ n) (r : Propagated t n l j w) where
  turn_own : turn_of t n l ≤ l
  turn_own = go (is_expression t l) refl
    where
      go : (b : Bool) → is_expression t l ≡ b → cond b (user_of t n l) l ≤ l
      go true e = omega (arith, own.user_below t n s l e)
      go false e = omega arith

  pub owner_own : owner w l ≡ owner_of t n l
  owner_own = r.owners l h g turn_own

  pub level_own : j < l → target w l ≡ level_of t n l
  level_own e = r.levels l h g turn_own ∙ left_above t n j l e

-- ---- clearing

left_other : (t : List ℤ) (n l x : ℕ) → 1 ≤ l → (x ≡ l → ⊥) → level_left t n (l - 1) x ≡ level_left t n l x
left_other t n l x h d = go (leb x l) refl
  where
    go : (b : Bool) → leb x l ≡ b → level_left t n (l - 1) x ≡ level_left t n l x
    go true e = rw (le-leb x (l - 1) (omega (arith, leb-true x l e, d)), e)
    go false e = rw (lt-leb x (l - 1) (omega (arith, leb-false x l e)), e)

pub clear_turn : (t : List ℤ) (n : ℕ) → 8 * n ≤ length t → (w : List ℤ) (l : ℕ) → 1 ≤ l → l ≤ n
    → Propagated t n l (l - 1) w → Propagated t n l l (set w (8 * (l - 1) + 7) (pos 0))
clear_turn t n room w l h g r = record {
  over = over_set t w n room r.over l 7 0 h g (omega arith) (omega arith);
  owners = λ x a b q. cell_other w l 7 x 6 (pos 0) h (omega arith) (omega arith) (λ e f. omega arith) ∙ r.owners x a b q;
  levels = λ x a b q. go x a b q (eqb x l) refl;
}
  where
    go : (x : ℕ) → 1 ≤ x → x ≤ n → turn_of t n x ≤ l → (c : Bool) → eqb x l ≡ c → target (set w (8 * (l - 1) + 7) (pos 0)) x ≡ level_left t n l x
    go x a b q true e = rw (eqb-true x l e) (cell_put w l 7 0 h (omega (arith, r.over.size)) (omega arith) ∙ sym (rw (le-leb l l (omega arith))))
    go x a b q false e =
        let d = eqb-false x l e in
        cell_other w l 7 x 7 (pos 0) h (omega arith) (omega arith) (λ f z. d f) ∙ r.levels x a b q ∙ left_other t n l x h d
