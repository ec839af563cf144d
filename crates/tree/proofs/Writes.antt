-- What the code's writes do to the cells: a table that differs from another in owner and target cells only has the same tree.
use mathlib.Core.Path.{◌≡◌, refl, ap, sym, ◌∙◌}
use mathlib.Core.Bool.{Bool, true, false}
use mathlib.Core.List.{List}
use Prim.Native.Nat.{ℕ, zero, suc, ◌+◌, ◌-◌, ◌*◌, ◌≤◌, ◌<◌}
use native.Mathlib.Omega.{arith}
use native.Mathlib.Decide.{ℕ_discrete}
use borrow.Author.Tests.{eqb-true, eqb-false}
use lib.Dec.{eqb}
use lib.IntN.{ℤ, pos}
use lib.ListN.{length, set, length-set}
use Rattle.cells.specs.Limits.{label_limit}
use Rattle.cells.specs.Cells.{nat_of, int_at}
use Rattle.cells.specs.Lists.{one, count}
use Rattle.cells.specs.Table.{cell, kind, field_a, field_b, field_c, owner, target}
use Rattle.kinds.specs.Coded.{own_code}
use Rattle.kinds.specs.Kinds.{fields_at}
use Rattle.kinds.specs.declared.Fields.{Fields}
use Rattle.kinds.specs.declared.Kind.{Kind}
use Rattle.cells.proofs.Stores.{int_at_put, int_at_other}
use Rattle.cells.proofs.Table.{cell_put, cell_other}
use Rattle.tree.specs.Treed.{Formed, Plain}
use Rattle.tree.specs.TreeSteps.{HasCells, part_in, Node, node_at, twice, assigned, claimed, HasPart, Inside, Natural, Over}
use Rattle.std.specs.Prelude.{Option, Some, None}
use Rattle.tree.proofs.Parts.{Alike, alike_parts}
use Rattle.tree.proofs.Labels.{counted, assigned_none, assigned_some, claimed_first, claimed_again}

-- ---- tables that agree in the fields

natural_of : (z : ℤ) (v : ℕ) → z ≡ pos v → z ≡ pos (nat_of z)
natural_of z v e = rw e

pub plain_natural : (t : List ℤ) (n : ℕ) → Plain t n → Natural t n
plain_natural t n p k j h a b = natural_of (int_at t (8 * k + j)) 0 (p.blank k j h a b)

pub over_start : (t : List ℤ) (n : ℕ) → Natural t n → Over t n t
over_start t n h = record { size = refl; fields = λ i a. refl; beyond = λ i a. refl; natural = h }

pub over_alike : (t w : List ℤ) (n : ℕ) → Over t n w → Alike t w
over_alike t w n o zero j h = refl
over_alike t w n o (suc k) j h = ap nat_of (o.fields (8 * k + j) (omega arith))

module _ (t w : List ℤ) (same : Alike t w) where
  pub alike_node : (l : ℕ) → node_at w l ≡ node_at t l
  unfolding node_at
  alike_node l = rw (same l 0 (omega arith), same l 3 (omega arith), same l 4 (omega arith), same l 5 (omega arith))

  -- a line's fields by its kind, read again while owners and targets are written
  module _ (l : ℕ) (k : Kind) (e : own_code k ≡ kind t l) (f : Fields) (q : f ≡ fields_at (own_code k)) where
    pub part_a : part_in f.a (field_a w l) ≡ (node_at t l).a
    unfolding node_at
    part_a = rw (same l 3 (omega arith), q, e)

    pub part_b : part_in f.b (field_b w l) ≡ (node_at t l).b
    unfolding node_at
    part_b = rw (same l 4 (omega arith), q, e)

    pub part_c : part_in f.c (field_c w l) ≡ (node_at t l).c
    unfolding node_at
    part_c = rw (same l 5 (omega arith), q, e)

  module _ (n : ℕ) (e : length w ≡ length t) where
    pub alike_formed : Formed t n → Formed w n
    alike_formed s = record {
      few = s.few;
      room = omega (arith, s.room);
      kinds = λ l h g. rw (same l 0 (omega arith)) (s.kinds l h g);
      unused = λ l h. same l 0 (omega arith) ∙ s.unused l h;
      labels = λ l h g. ap (count 0) (alike_parts t w same l) ∙ s.labels l h g;
      top = same 1 3 (omega arith) ∙ s.top;
    }

-- ---- a store in an owner or target cell

module _ (t w : List ℤ) (n : ℕ) (room : 8 * n ≤ length t) (o : Over t n w) where
  module _ (x j v : ℕ) (h : 1 ≤ x) (g : x ≤ n) (a : 6 ≤ j) (b : j < 8) where
    abbrev after : List ℤ
    after = set w (8 * (x - 1) + j) (pos v)

    natural_at : (i y : ℕ) → int_at w i ≡ pos y → (s : Bool) → eqb i (8 * (x - 1) + j) ≡ s → int_at after i ≡ pos (nat_of (int_at after i))
    natural_at i y e true q =
        natural_of (int_at after i) v (ap (int_at after) (eqb-true i (8 * (x - 1) + j) q) ∙ int_at_put w (8 * (x - 1) + j) (pos v) (omega (arith, o.size)))
    natural_at i y e false q =
        natural_of (int_at after i) y (int_at_other w (8 * (x - 1) + j) i (pos v) (eqb-false i (8 * (x - 1) + j) q) ∙ e)

    pub over_set : Over t n after
    over_set = record {
      size = length-set w (8 * (x - 1) + j) (pos v) ∙ o.size;
      fields = λ i m. int_at_other w (8 * (x - 1) + j) i (pos v) (λ e. omega arith) ∙ o.fields i m;
      beyond = λ i m. int_at_other w (8 * (x - 1) + j) i (pos v) (λ e. omega arith) ∙ o.beyond i m;
      natural = λ k m c d e. natural_at (8 * k + m) (cell w (suc k) m) (o.natural k m c d e) (eqb (8 * k + m) (8 * (x - 1) + j)) refl;
    }

-- ---- owner and level of a label

module _ (x d v : ℕ) (t : List ℤ) where
  -- label 0 has no cells
  by_label : (P : List ℤ → Type 0) → P t → (1 ≤ x → P (set (set t (8 * (x - 1) + 6) (pos d)) (8 * (x - 1) + 7) (pos v))) → P (assigned x d v t)
  by_label P none some = go (ℕ_discrete x 0)
    where
      go : Dec (x ≡ 0) → P (assigned x d v t)
      go (yes e) = rw (assigned_none x t d v e) none
      go (no e) = rw (assigned_some x t d v e) (some (omega arith))

  pub assigned_length : length (assigned x d v t) ≡ length t
  assigned_length =
      by_label (λ w. length w ≡ length t) refl
      (λ h. length-set (set t (8 * (x - 1) + 6) (pos d)) (8 * (x - 1) + 7) (pos v) ∙ length-set t (8 * (x - 1) + 6) (pos d))

  -- other cells
  assigned_kept : (y j : ℕ) → j < 8 → (y ≡ x → 6 ≤ j → ⊥) → cell (assigned x d v t) y j ≡ cell t y j
  assigned_kept y j h g =
      by_label (λ w. cell w y j ≡ cell t y j) refl
      (λ l. cell_other (set t (8 * (x - 1) + 6) (pos d)) x 7 y j (pos v) l (omega arith) h (λ e f. g e (omega arith))
      ∙ cell_other t x 6 y j (pos d) l (omega arith) h (λ e f. g e (omega arith)))

  pub assigned_alike : Alike t (assigned x d v t)
  assigned_alike l j h = assigned_kept l j (omega arith) (λ e f. omega arith)

  -- another label
  pub assigned_other : (y j : ℕ) → j < 8 → (y ≡ x → ⊥) → cell (assigned x d v t) y j ≡ cell t y j
  assigned_other y j h g = assigned_kept y j h (λ e f. g e)

  module _ (has : HasCells t x) where
    pub assigned_owner : owner (assigned x d v t) x ≡ d
    assigned_owner =
        rw (assigned_some x t d v (λ e. omega (arith, has.0)))
        (cell_other (set t (8 * (x - 1) + 6) (pos d)) x 7 x 6 (pos v) has.0 (omega arith) (omega arith) (λ e f. omega arith) ∙ cell_put t x 6 d has.0 has.1 (omega arith))

    pub assigned_level : target (assigned x d v t) x ≡ v
    assigned_level =
        rw (assigned_some x t d v (λ e. omega (arith, has.0)))
        (cell_put (set t (8 * (x - 1) + 6) (pos d)) x 7 v has.0 (omega (arith, has.1, length-set t (8 * (x - 1) + 6) (pos d))) (omega arith))

pub over_assigned : (t w : List ℤ) (n : ℕ) → 8 * n ≤ length t → Over t n w → (x d v : ℕ) → x ≤ n → Over t n (assigned x d v w)
over_assigned t w n room o x d v g =
    by_label x d v w (Over t n) o
    (λ h. over_set t (set w (8 * (x - 1) + 6) (pos d)) n room (over_set t w n room o x 6 d h g (omega arith) (omega arith)) x 7 v h g (omega arith) (omega arith))

-- ---- a use

-- the owner cell o of an expression that is used u times
pub record Claimed (u o : ℕ) : Type 0 where
  pub none : u ≡ 0 → o ≡ 0
  pub once : u ≡ 1 → (1 ≤ o) × (o ≤ label_limit)
  pub more : 2 ≤ u → o ≡ twice

pub claimed_once : (u o : ℕ) → Claimed u o → 1 ≤ o → o ≤ label_limit → u ≡ 1
claimed_once zero o c h g = omega (arith, c.none refl)
claimed_once (suc zero) o c h g = refl
claimed_once (suc (suc u)) o c h g = omega (arith, c.more (omega arith))

-- a use more
claims_first : (u o d : ℕ) → Claimed u o → o ≡ 0 → 1 ≤ d → d ≤ label_limit → Claimed (u + 1) d
claims_first u o d c e h g = record { none = λ q. omega arith; once = λ q. (h, g); more = λ q. absurd (never u c q) }
  where
    never : (u : ℕ) → Claimed u o → 2 ≤ u + 1 → ⊥
    never zero c q = omega arith
    never (suc zero) c q = omega (arith, (c.once refl).0)
    never (suc (suc u)) c q = omega (arith, c.more (omega arith))

claims_again : (u o : ℕ) → Claimed u o → (o ≡ 0 → ⊥) → Claimed (u + 1) twice
claims_again u o c e = record { none = λ q. omega arith; once = λ q. absurd (e (c.none (omega arith))); more = λ q. refl }

-- a part of which a table of n labels has the cells
abbrev pub Within : ℕ → Option ℕ → Type 0
Within n None = Unit {0}
Within n (Some x) = (1 ≤ x) × (x ≤ n)

pub within_placed : (n : ℕ) (t : List ℤ) (p : Option ℕ) → 8 * n ≤ length t → Within n p → HasPart t p
within_placed n t None room w = tt
within_placed n t (Some x) room w = (w.0, omega (arith, w.1))

pub placed_kept : (t w : List ℤ) → length w ≡ length t → (p : Option ℕ) → HasPart t p → HasPart w p
placed_kept t w e None has = tt
placed_kept t w e (Some x) has = (has.0, omega (arith, has.1))

pub inside_kept : (t w : List ℤ) → length w ≡ length t → (p : Node) → Inside t p → Inside w p
inside_kept t w e p i = record { a = placed_kept t w e p.a i.a; b = placed_kept t w e p.b i.b; c = placed_kept t w e p.c i.c }

module _ (x d v : ℕ) (t : List ℤ) where
  -- the first use, or another
  by_use : (P : List ℤ → Type 0) → (owner t x ≡ 0 → P (assigned x d v t)) → ((owner t x ≡ 0 → ⊥) → P (set t (8 * (x - 1) + 6) (pos twice))) → P (claimed (Some x) d v t)
  by_use P first again = go (eqb (owner t x) 0) refl
    where
      go : (b : Bool) → eqb (owner t x) 0 ≡ b → P (claimed (Some x) d v t)
      go true e = let z = eqb-true (owner t x) 0 e in rw (claimed_first x t d v z) (first z)
      go false e = let z = eqb-false (owner t x) 0 e in rw (claimed_again x t d v z) (again z)

module _ (d v : ℕ) (t : List ℤ) where
  pub claimed_length : (p : Option ℕ) → length (claimed p d v t) ≡ length t
  claimed_length None = refl
  claimed_length (Some x) = by_use x d v t (λ w. length w ≡ length t) (λ e. assigned_length x d v t) (λ e. length-set t (8 * (x - 1) + 6) (pos twice))

  pub claimed_alike : (p : Option ℕ) → HasPart t p → Alike t (claimed p d v t)
  claimed_alike None has l j h = refl
  claimed_alike (Some x) has l j h =
      by_use x d v t (λ w. cell w l j ≡ cell t l j) (λ e. assigned_alike x d v t l j h)
      (λ e. cell_other t x 6 l j (pos twice) has.0 (omega arith) (omega arith) (λ q f. omega arith))

  pub claimed_low : (p : Option ℕ) → HasPart t p → (y m : ℕ) → target t y ≤ m → v ≤ m → target (claimed p d v t) y ≤ m
  claimed_low None has y m h g = h
  claimed_low (Some x) has y m h g =
      by_use x d v t (λ w. target w y ≤ m) (λ e. go (eqb y x) refl) (λ e. omega (arith, cell_other t x 6 y 7 (pos twice) has.0 (omega arith) (omega arith) (λ q f. omega arith)))
    where
      go : (b : Bool) → eqb y x ≡ b → target (assigned x d v t) y ≤ m
      go true q = let z = eqb-true y x q in rw z (omega (arith, assigned_level x d v t has))
      go false q = omega (arith, assigned_other x d v t y 7 (omega arith) (eqb-false y x q))

  pub claimed_claims : (p : Option ℕ) → HasPart t p → (y u : ℕ) → 1 ≤ d → d ≤ label_limit → Claimed u (owner t y) → Claimed (u + counted y p) (owner (claimed p d v t) y)
  claimed_claims None has y u h g c = let z : u + 0 ≡ u = omega arith in rw z c
  claimed_claims (Some x) has y u h g c = go (eqb y x) refl
    where
      same : y ≡ x → Claimed (u + 1) (owner (claimed (Some x) d v t) y)
      same q =
          let k : Claimed u (owner t x) = rw (sym q) c in
          rw q (by_use x d v t (λ w. Claimed (u + 1) (owner w x))
          (λ e. rw (assigned_owner x d v t has) (claims_first u (owner t x) d k e h g))
          (λ e. rw (cell_put t x 6 twice has.0 has.1 (omega arith)) (claims_again u (owner t x) k e)))

      other : (y ≡ x → ⊥) → owner (claimed (Some x) d v t) y ≡ owner t y
      other q =
          by_use x d v t (λ w. owner w y ≡ owner t y) (λ e. assigned_other x d v t y 6 (omega arith) q)
          (λ e. cell_other t x 6 y 6 (pos twice) has.0 (omega arith) (omega arith) (λ z f. q z))

      go : (b : Bool) → eqb y x ≡ b → Claimed (u + one b) (owner (claimed (Some x) d v t) y)
      go true q = same (eqb-true y x q)
      go false q =
          let z : u + 0 ≡ u = omega arith in
          rw (z, other (eqb-false y x q)) c

pub over_claimed : (t w : List ℤ) (n : ℕ) → 8 * n ≤ length t → Over t n w → (p : Option ℕ) (d v : ℕ) → Within n p → Over t n (claimed p d v w)
over_claimed t w n room o None d v h = o
over_claimed t w n room o (Some x) d v h =
    by_use x d v w (λ u. Over t n u) (λ e. over_assigned t w n room o x d v h.1) (λ e. over_set t w n room o x 6 twice h.0 h.1 (omega arith) (omega arith))
