-- What a Group lists, and labels put into the plan one after the other.
use mathlib.Core.Path.{◌≡◌, refl, sym, ap, ◌∙◌, subst}
use mathlib.Core.Logic.{◌⊎◌, inl, inr}
use mathlib.Core.List.{List, [], ◌∷◌, ◌++◌, append_assoc, append-nil, map}
use mathlib.Core.Bool.{true, false}
use Prim.Native.Nat.{ℕ, suc, ◌+◌, ◌-◌, ◌≤◌, ◌<◌}
use native.Mathlib.Omega.{arith}
use native.Mathlib.Numerals.{add-one}
use lib.IntN.{ℤ, pos}
use lib.ListN.{length, get_or, set, take, drop, length-append}
use lib.Seq.{take-suc-set, drop-set-lt, drop-drop}
use borrow.Author.Tests.{ne_eqb}
use denote.Enum.Bare.{sameb, same_true}
use Rattle.std.proofs.Common.{rules}
use Rattle.kinds.specs.contracts.Kind.{the_type}
use Rattle.kinds.specs.declared.Kind.{Kind}
use Rattle.kinds.specs.declared.Kind.TheVariants as kind_of
use Rattle.kinds.proofs.Enumerated.{one_kind}
use Rattle.kinds.specs.Kinds.{group_code, value_code}
use Rattle.kinds.specs.Coded.{own_code}
use Rattle.cells.specs.Table.{kind}
use Rattle.cells.specs.Accepted.{Accepted}
use Rattle.order.specs.LabelLists.{◌∈◌, joined}
use Rattle.order.specs.Blocks.{several}
use Rattle.order.specs.Order.{is_g, is_v, members, needs, ordered, listed, block_listed, group_plan, plan_order}
use Rattle.order.proofs.Tests.{both_ways}
use Rattle.order.proofs.Lists.{in_here, in_right}
use Rattle.order.proofs.Tables.{kind_g, kind_v, v_not_g, g_def, def_label, top_group}
use Rattle.order.proofs.Joined.{joined_same, joined_append}
use Rattle.order.proofs.Listed.{listed_group}
use Rattle.order.proofs.Unrolled.{block_same, member_later, deep}
use Rattle.groups.specs.Members.{Chain}
use Rattle.planning.specs.Listing.{list_of, PutAt}
use Rattle.groups.proofs.Chains.{steps, steps_are}
use Rattle.groups.specs.Opened.{expanded, Opened}
use Rattle.groups.proofs.Expanded.{Stands, stands, expanded_label, expanded_few, expanded_lists}
use Rattle.groups.proofs.Progress.{within_le, member_above, alone_free}

-- ---- joined lists

joined_more : (f : ℕ → List ℕ) (a : List ℕ) (p : ℕ) → joined f (a ++ p ∷ []) ≡ joined f a ++ f p
joined_more f a p = joined_append f a (p ∷ []) ∙ ap (λ (l : List ℕ). joined f a ++ l) (append-nil (f p))

-- ---- what a Group lists, however deep one looks

module _ (t : List ℤ) (n : ℕ) (ok : Accepted t n) where
  group_label : (g : ℕ) → is_g t g ≡ true → g ≤ n
  group_label g ig = (def_label t n ok g (g_def t g ig)).1

  unrolled : (g : ℕ) → is_g t g ≡ true → list_of t n g ≡ joined (listed t (list_of t n)) (expanded t n g)
  unrolled g ig =
      ap (λ (k : ℕ). group_plan t n k g) one_more_lem
      ∙ joined_same (block_listed t n g (λ p. group_plan t n (n - g) p)) (block_listed t n g (list_of t n)) (ordered t n g) each ∙ expanded_lists t n ok g (list_of t n)
    where
      one_more_lem : n + 1 - g ≡ suc (n - g)
      one_more_lem = omega (arith, group_label g ig)

      each : (p : ℕ) → p ∈ ordered t n g → block_listed t n g (λ p. group_plan t n (n - g) p) p ≡ block_listed t n g (list_of t n) p
      each p m = block_same t n g (λ p. group_plan t n (n - g) p) (list_of t n) p
          (λ gp. deep t n ok (n - g) (n + 1 - p) p gp (omega (arith, member_later t n ok g p m, group_label g ig)) (omega (arith, group_label p gp)))

  -- the outermost Group's is the plan
  pub whole_list : list_of t n 1 ≡ plan_order t n
  whole_list = deep t n ok (n + 1 - 1) n 1 (top_group t n ok) (omega arith) (omega arith)

-- ---- lists put into the plan

map_append : (a b : List ℕ) → map pos (a ++ b) ≡ map pos a ++ map pos b
map_append [] b = refl
map_append (x ∷ a) b = ap (λ (l : List ℤ). pos x ∷ l) (map_append a b)

pub put_none : (at : ℕ) (plan : List ℤ) → PutAt [] at plan plan at
put_none at plan = record { end = omega arith; cells = sym (append-nil (take at plan)); rest = refl }

pub put_one : (to p : ℕ) (plan : List ℤ) (v : ℤ) → to < length plan → v ≡ pos p → PutAt (p ∷ []) to plan (set plan to v) (to + 1)
put_one to p plan v h e = record {
  end = omega arith;
  cells = rw add-one (take-suc-set plan to v h) ∙ ap (λ (z : ℤ). take to plan ++ z ∷ []) e;
  rest = drop-set-lt (to + 1) plan to v (omega arith);
}

pub put_then : (l l' : List ℕ) (at to to' : ℕ) (plan₀ plan plan' : List ℤ) → PutAt l at plan₀ plan to → PutAt l' to plan plan' to'
    → PutAt (l ++ l') at plan₀ plan' to'
put_then l l' at to to' plan₀ plan plan' p q = record {
  end = omega (arith, p.end, q.end, length-append l l');
  cells =
      q.cells ∙ ap (λ (z : List ℤ). z ++ map pos l') p.cells ∙ append_assoc (take at plan₀) (map pos l) (map pos l')
      ∙ ap (λ (z : List ℤ). take at plan₀ ++ z) (sym (map_append l l'));
  rest = q.rest ∙ ap (λ (k : ℕ). drop k plan) q.end ∙ sym (drop-drop (length l') to plan) ∙ ap (λ (z : List ℤ). drop (length l') z) p.rest
      ∙ drop-drop (length l') to plan₀ ∙ sym (ap (λ (k : ℕ). drop k plan₀) q.end);
}

-- ---- whether a kind is that of a Group

pub is_group : (k : Kind) (c : ℕ) → own_code k ≡ c → sameb the_type k kind_of.Group ≡ true → c ≡ group_code
is_group k c e h = sym e ∙ ap own_code (same_true the_type (search rules) k kind_of.Group h)

pub no_group : (k : Kind) (c : ℕ) → own_code k ≡ c → sameb the_type k kind_of.Group ≡ false → c ≡ group_code → ⊥
no_group k c e h z =
    both_ways (sameb the_type k kind_of.Group) (subst (λ (m : Kind). sameb the_type m kind_of.Group ≡ true) (sym (one_kind k kind_of.Group (e ∙ z))) refl) h

-- ---- the turns of `list_group`

-- what stands in the chain of Group g before x is listed
pub record Turn (t : List ℤ) (n g : ℕ) (links : List ℕ) (at : ℕ) (plan₀ plan : List ℤ) (to x : ℕ) : Type 0 where
  pub before : List ℕ
  pub rest : List ℕ
  pub parts : before ++ rest ≡ expanded t n g
  pub chain : Chain n links x rest
  pub put : PutAt (joined (listed t (list_of t n)) before) at plan₀ plan to

module _ (t : List ℤ) (n : ℕ) (ok : Accepted t n) (g : ℕ) (links : List ℕ) (at : ℕ) (plan₀ : List ℤ) where
  pub turn_start : (x : ℕ) → Chain n links x (expanded t n g) → Turn t n g links at plan₀ plan₀ at x
  turn_start x c = record { before = []; rest = expanded t n g; parts = refl; chain = c; put = put_none at plan₀ }

  module _ (plan : List ℤ) (to x : ℕ) (u : Turn t n g links at plan₀ plan to x) where
    -- how many are left
    left : steps n links n x ≡ length u.rest
    left = steps_are n links n x u.rest (omega (arith, ap length u.parts, length-append u.before u.rest, expanded_few t n ok g)) u.chain

    pub turn_end : is_g t g ≡ true → x ≡ 0 → PutAt (list_of t n g) at plan₀ plan to
    turn_end ig z = go u.rest u.parts u.chain
      where
        go : (rest : List ℕ) → u.before ++ rest ≡ expanded t n g → Chain n links x rest → PutAt (list_of t n g) at plan₀ plan to
        go [] e c = subst (λ (l : List ℕ). PutAt l at plan₀ plan to) (ap (joined (listed t (list_of t n))) (sym (append-nil u.before) ∙ e) ∙ sym (unrolled t n ok g ig)) u.put
        go (y ∷ l) e c = absurd (omega (arith, c.0, c.1))

    -- the links member is x
    module _ (z : x ≡ 0 → ⊥) where
      abbrev Split : List ℕ → Type 0
      Split rest = (l : List ℕ) × (rest ≡ x ∷ l) × (1 ≤ x) × Chain n links (get_or links (n + x) 0) l

      split_of : (rest : List ℕ) → Chain n links x rest → Split rest
      split_of [] c = absurd (z c)
      split_of (y ∷ l) c =
          (l, ap (λ (v : ℕ). v ∷ l) (sym c.0), subst (λ (v : ℕ). 1 ≤ v) (sym c.0) c.1, subst (λ (v : ℕ). Chain n links (get_or links (n + v) 0) l) (sym c.0) c.2)

      split : Split u.rest
      split = split_of u.rest u.chain

      parts : (u.before ++ x ∷ []) ++ split.0 ≡ expanded t n g
      parts = append_assoc u.before (x ∷ []) split.0 ∙ ap (λ (l : List ℕ). u.before ++ l) (sym split.1) ∙ u.parts

      pub turn_member : x ∈ expanded t n g
      turn_member = subst (λ (l : List ℕ). x ∈ l) u.parts (in_right x u.before u.rest (subst (λ (l : List ℕ). x ∈ l) (sym split.1) (in_here x split.0)))

      pub turn_label : (1 ≤ x) × (x ≤ n) × (g < x)
      turn_label =
          let s = stands t n ok g x turn_member in
          (split.2, (expanded_label t n ok g x turn_member).1, omega (arith, member_above t n ok g s.member s.of, within_le t n ok s.member x s.inside))

      pub turn_less : steps n links n (get_or links (n + x) 0) < steps n links n x
      turn_less =
          let e = steps_are n links n (get_or links (n + x) 0) split.0 (omega (arith, ap length parts, length-append (u.before ++ x ∷ []) split.0, expanded_few t n ok g)) split.3 in
          omega (arith, left, e, ap length split.1)

      turn_more : (plan' : List ℤ) (to' : ℕ) → PutAt (listed t (list_of t n) x) to plan plan' to' → Turn t n g links at plan₀ plan' to' (get_or links (n + x) 0)
      turn_more plan' to' p = record {
        before = u.before ++ x ∷ [];
        rest = split.0;
        parts = parts;
        chain = split.3;
        put = subst (λ (l : List ℕ). PutAt l at plan₀ plan' to') (sym (joined_more (listed t (list_of t n)) u.before x))
            (put_then (joined (listed t (list_of t n)) u.before) (listed t (list_of t n) x) at to to' plan₀ plan plan' u.put p);
      }

      -- there is room for the links member's list
      turn_room : is_g t g ≡ true → (m : ℕ) → at + length (list_of t n g) ≤ m → to + length (listed t (list_of t n) x) ≤ m
      turn_room ig m r =
          let f = listed t (list_of t n) in
          let all : joined f (u.before ++ x ∷ []) ++ joined f split.0 ≡ list_of t n g = sym (joined_append f (u.before ++ x ∷ []) split.0) ∙ ap (joined f) parts
          ∙ sym (unrolled t n ok g ig) in
          omega (
            arith,
            u.put.end,
            ap length (joined_more f u.before x),
            length-append (joined f u.before) (f x),
            ap length all,
            length-append (joined f (u.before ++ x ∷ []))
                (joined f split.0),
          )

      -- ---- a value

      module _ (k : kind t x ≡ value_code) where
        value_list : listed t (list_of t n) x ≡ x ∷ []
        value_list = rw (kind_v t x k)

        pub value_room : is_g t g ≡ true → (m : ℕ) → at + length (list_of t n g) ≤ m → to < m
        value_room ig m r = omega (arith, turn_room ig m r, ap length value_list)

        pub value_turn : (v : ℤ) → v ≡ pos x → to < length plan → Turn t n g links at plan₀ (set plan to v) (to + 1) (get_or links (n + x) 0)
        value_turn v e h = turn_more (set plan to v) (to + 1) (subst (λ (l : List ℕ). PutAt l to plan (set plan to v) (to + 1)) (sym value_list) (put_one to x plan v h e))

      -- ---- a Group

      module _ (k : kind t x ≡ group_code) where
        group_list : listed t (list_of t n) x ≡ list_of t n x
        group_list = listed_group t n ok (list_of t n) x (kind_g t x k)

        -- it is alone in its block, so it is not opened
        pub group_free : 1 ≤ g → (Opened t n (n + 1) g → ⊥) → Opened t n (n + 1) x → ⊥
        group_free low free = let s = stands t n ok g x turn_member in go s s.how
          where
            go : (s : Stands t n g x)
                → ((s.member ≡ x) × (several (needs t n) (members t n g) x ≡ false)) ⊎ ((several (needs t n) (members t n g) s.member ≡ true) × (is_v t x ≡ true))
                → Opened t n (n + 1) x → ⊥
            go s (inl e) = alone_free t n ok (n + 1) g x low free (subst (λ (y : ℕ). y ∈ members t n g) e.0 s.of) e.1
            go s (inr e) = both_ways (is_g t x) (kind_g t x k) (v_not_g t x e.1)

        pub group_room : is_g t g ≡ true → (m : ℕ) → at + length (list_of t n g) ≤ m → to + length (list_of t n x) ≤ m
        group_room ig m r = omega (arith, turn_room ig m r, ap length group_list)

        pub group_turn : (plan' : List ℤ) (to' : ℕ) → PutAt (list_of t n x) to plan plan' to' → Turn t n g links at plan₀ plan' to' (get_or links (n + x) 0)
        group_turn plan' to' p = turn_more plan' to' (subst (λ (l : List ℕ). PutAt l to plan plan' to') (sym group_list) p)

      -- ---- a function

      pub none_turn : (kind t x ≡ value_code → ⊥) → (kind t x ≡ group_code → ⊥) → Turn t n g links at plan₀ plan to (get_or links (n + x) 0)
      none_turn a b = turn_more plan to (subst (λ (l : List ℕ). PutAt l to plan plan to) (sym nothing) (put_none to plan))
        where
          nothing : listed t (list_of t n) x ≡ []
          nothing = rw (ne_eqb (kind t x) value_code a, ne_eqb (kind t x) group_code b)
