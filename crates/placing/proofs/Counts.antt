-- Counts raised, lowered and cleared; marks of what is ready.
use mathlib.Core.Path.{◌≡◌, refl, sym, ap, ◌∙◌, subst}
use mathlib.Core.Logic.{◌⊎◌, inl, inr, ◌↔◌}
use mathlib.Core.List.{List, ◌∷◌}
use mathlib.Core.Bool.{Bool, true, false, ◌&&◌}
use Prim.Native.Nat.{ℕ, ◌+◌, ◌-◌, ◌*◌, ◌/◌, ◌≤◌, ◌<◌}
use native.Mathlib.Omega.{arith}
use native.Mathlib.Decide.{ℕ_discrete, dec_lt}
use lib.Dec.{eqb, ltb}
use lib.ListN.{length, get_or, set, take}
use lib.Seq.{get_or-set_same, get_or-set_other, length-take-le}
use borrow.Author.Tests.{eq-eqb, ne_eqb, lt-ltb, le-ltb}
use Rattle.order.specs.LabelLists.{one, count, ◌∈◌, filter}
use Rattle.order.proofs.Tests.{and_right, one_le, one_in}
use Rattle.order.proofs.Lists.{zero_or_in, filter_le}
use Rattle.marks.specs.Marks.{mark, Added}
use Rattle.marks.proofs.Squares.{mark_in}
use Rattle.placing.specs.UnmetCounts.{needed, Fits, MaskedRow, RaisedBy, LoweredBy}
use Rattle.placing.proofs.Lists.{count_more, in_more, filter_more}

pub eq_one : (x p : ℕ) → x ≡ p → one (eqb x p) ≡ 1
eq_one x p e = ap one (eq-eqb x p e)

ne_one : (x p : ℕ) → (x ≡ p → ⊥) → one (eqb x p) ≡ 0
ne_one x p e = ap one (ne_eqb x p e)

-- ---- those that need q, word by word

module _ (square mask : List ℕ) (w q : ℕ) where
  needed_right : (p : ℕ) → needed square mask w p q ≡ true → mark mask w 0 p ≡ true
  needed_right p e = and_right (mark square w q p) (mark mask w 0 p) (and_right (mark mask w 0 q) (mark square w q p && mark mask w 0 p) e)

  -- 1 for what needs q, where it is below k
  abbrev pub below : ℕ → ℕ → ℕ
  below k p = one (ltb p k && needed square mask w p q)

  pub below_none : (p : ℕ) → below (64 * 0) p ≡ 0
  below_none p = rw (le-ltb p (64 * 0) (omega arith))

  pub below_all : (p : ℕ) → below (64 * w) p ≡ one (needed square mask w p q)
  below_all p = go (dec_lt p (64 * w)) (needed square mask w p q) refl
    where
      go : Dec (p < 64 * w) → (t : Bool) → needed square mask w p q ≡ t → below (64 * w) p ≡ one (needed square mask w p q)
      go (yes h) _ _ = rw (lt-ltb p (64 * w) h)
      go (no h) true e = absurd (h (mark_in mask w 0 p (needed_right p e)))
      go (no h) false e = rw (le-ltb p (64 * w) (omega arith), e)

  below_le : (k p : ℕ) → below k p ≤ one (needed square mask w p q)
  below_le k p = go (ltb p k) refl
    where
      go : (t : Bool) → ltb p k ≡ t → below k p ≤ one (needed square mask w p q)
      go true h = rw h (omega arith)
      go false h = rw h (omega arith)

  -- with the marks of word j
  module _ (e : mark mask w 0 q ≡ true) (j : ℕ) (l : List ℕ) (own : (p : ℕ) → count p l ≡ one (eqb (p / 64) j && mark square w q p && mark mask w 0 p)) where
    pub below_turn : (p : ℕ) → below (64 * j) p + count p l ≡ below (64 * (j + 1)) p
    below_turn p = go (ℕ_discrete (p / 64) j) (dec_lt p (64 * j))
      where
        none : (p / 64 ≡ j → ⊥) → count p l ≡ 0
        none z = own p ∙ rw (ne_eqb (p / 64) j z)

        met : p / 64 ≡ j → count p l ≡ one (needed square mask w p q)
        met z = own p ∙ rw (eq-eqb (p / 64) j z, e)

        go : Dec (p / 64 ≡ j) → Dec (p < 64 * j) → below (64 * j) p + count p l ≡ below (64 * (j + 1)) p
        go (yes z) _ = rw (le-ltb p (64 * j) (omega arith), lt-ltb p (64 * (j + 1)) (omega arith)) (omega (arith, met z))
        go (no z) (yes h) = rw (lt-ltb p (64 * j) h, lt-ltb p (64 * (j + 1)) (omega arith)) (omega (arith, none z))
        go (no z) (no h) = rw (le-ltb p (64 * j) (omega arith), le-ltb p (64 * (j + 1)) (omega arith)) (omega (arith, none z))

    -- the word has only such as need q
    pub word_le : (p : ℕ) → below (64 * j) p + count p l ≤ one (needed square mask w p q)
    word_le p = omega (arith, below_turn p, below_le (64 * (j + 1)) p)

    pub in_word : (p : ℕ) → p ∈ l → mark mask w 0 p ≡ true
    in_word p h = needed_right p (one_in (needed square mask w p q) (omega (arith, h, word_le p)))

-- what needs q is an item
pub need_item : (items square mask unmet : List ℕ) (w q : ℕ) → Fits items square mask unmet w → (p : ℕ) → needed square mask w p q ≡ true → p ∈ items
need_item items square mask unmet w q f p e = f.in_rows.masked p (needed_right square mask w q p e)

module _ (items square mask unmet unmet' : List ℕ) (w : ℕ) (e : length unmet' ≡ length unmet) (f : Fits items square mask unmet w) where
  pub fits_as : Fits items square mask unmet' w
  fits_as = record { in_rows = f.in_rows; few = f.few; counted = λ p m. omega (arith, f.counted p m) }

  -- an item has a row
  pub row_of : (q : ℕ) → q ∈ items → MaskedRow square mask unmet' w q
  row_of q m =
      let r = f.in_rows in
      record { narrow = r.narrow; below = r.below q m; row = r.rows q m; mask_room = r.mask_room; counted = λ p h. omega (arith, f.counted p (r.masked p h)) }

-- ---- counted, item by item

module _ (items square mask : List ℕ) (w i q : ℕ) (z : q ≡ get_or items i 0) (hi : i < length items) (unmet : List ℕ)
    (old : (p : ℕ) → p ∈ items → get_or unmet p 0 ≡ length (filter (needed square mask w p) (take i items))) where
  pub count_room : length items < 65536 → (p : ℕ) → p ∈ items → get_or unmet p 0 + one (needed square mask w p q) < 65536
  count_room few p h =
      let r : length (take i items) ≡ i = length-take-le i items (omega arith) in
      omega (arith, old p h, filter_le (needed square mask w p) (take i items), one_le (needed square mask w p q))

  pub count_turn : (unmet' : List ℕ) → RaisedBy (λ (p : ℕ). one (needed square mask w p q)) unmet unmet'
      → (p : ℕ) → p ∈ items → get_or unmet' p 0 ≡ length (filter (needed square mask w p) (take (i + 1) items))
  count_turn unmet' more p h =
      let s : one (needed square mask w p q) ≡ one (needed square mask w p (get_or items i 0)) = ap (λ (x : ℕ). one (needed square mask w p x)) z in
      omega (arith, more p, old p h, filter_more (needed square mask w p) items i hi)

-- ---- raised

pub raised_one : (unmet : List ℕ) (p : ℕ) → p < length unmet → RaisedBy (λ (x : ℕ). one (eqb x p)) unmet (set unmet p (get_or unmet p 0 + 1))
raised_one unmet p h x = go (ℕ_discrete x p)
  where
    go : Dec (x ≡ p) → get_or (set unmet p (get_or unmet p 0 + 1)) x 0 ≡ get_or unmet x 0 + one (eqb x p)
    go (yes e) = rw e (omega (arith, get_or-set_same unmet p (get_or unmet p 0 + 1) 0 h, eq_one p p refl))
    go (no e) = omega (arith, get_or-set_other unmet p x (get_or unmet p 0 + 1) 0 e, ne_one x p e)

-- ---- lowered

pub lowered_none : (less : ℕ → ℕ) → ((p : ℕ) → less p ≡ 0) → (unmet ready : List ℕ) (w : ℕ) → LoweredBy less unmet ready unmet ready w
lowered_none less z unmet ready w = record { counts = λ p. omega (arith, z p); kept = λ p e. e; new = λ p m. absurd (omega (arith, z p)); only = λ p e. inl e }

-- first by `a`, then by `b`
module _ (a b both : ℕ → ℕ) (sum : (p : ℕ) → a p + b p ≡ both p) (unmet ready unmet₁ ready₁ unmet₂ ready₂ : List ℕ) (w : ℕ) where
  pub lowered_on : LoweredBy a unmet ready unmet₁ ready₁ w → LoweredBy b unmet₁ ready₁ unmet₂ ready₂ w → LoweredBy both unmet ready unmet₂ ready₂ w
  lowered_on f g = record {
    counts = λ p. omega (arith, sum p, f.counts p, g.counts p);
    kept = λ p e. g.kept p (f.kept p e);
    new = λ p m e. new p e m (zero_or_in (b p));
    only = λ p e. only p (g.only p e);
  }
    where
      new : (p : ℕ) → get_or unmet₂ p 0 ≡ 0 → 0 < both p → (b p ≡ 0) ⊎ (0 < b p) → mark ready₂ w 0 p ≡ true
      new p e m (inl z) = g.kept p (f.new p (omega (arith, sum p)) (omega (arith, g.counts p)))
      new p e m (inr i) = g.new p i e

      first : (p : ℕ) → (mark ready w 0 p ≡ true) ⊎ ((0 < a p) × (get_or unmet₁ p 0 ≡ 0)) → (mark ready w 0 p ≡ true) ⊎ ((0 < both p) × (get_or unmet₂ p 0 ≡ 0))
      first p (inl e) = inl e
      first p (inr (i, e)) = inr (omega (arith, sum p), omega (arith, g.counts p))

      only : (p : ℕ) → (mark ready₁ w 0 p ≡ true) ⊎ ((0 < b p) × (get_or unmet₂ p 0 ≡ 0)) → (mark ready w 0 p ≡ true) ⊎ ((0 < both p) × (get_or unmet₂ p 0 ≡ 0))
      only p (inl e) = first p (f.only p e)
      only p (inr (i, e)) = inr (omega (arith, sum p), e)

-- by what is needed of the marks that were passed: one mark more
module _ (need : ℕ → ℕ) (p : ℕ) (l r : List ℕ) (e : l ≡ p ∷ r) (le : (x : ℕ) → count x l ≤ need x) where
  pub lowered_turn : (unmet ready unmet₁ ready₁ unmet₂ ready₂ : List ℕ) (w : ℕ) → LoweredBy (λ (x : ℕ). need x - count x l) unmet ready unmet₁ ready₁ w
      → LoweredBy (λ (x : ℕ). one (eqb x p)) unmet₁ ready₁ unmet₂ ready₂ w → LoweredBy (λ (x : ℕ). need x - count x r) unmet ready unmet₂ ready₂ w
  lowered_turn unmet ready unmet₁ ready₁ unmet₂ ready₂ w =
      lowered_on (λ (x : ℕ). need x - count x l) (λ (x : ℕ). one (eqb x p)) (λ (x : ℕ). need x - count x r) (λ x. omega (arith, ap (count x) e, le x))
      unmet ready unmet₁ ready₁ unmet₂ ready₂ w

-- one count falls
module _ (unmet ready ready' : List ℕ) (w p : ℕ) (inside : p < length unmet) (some : 1 ≤ get_or unmet p 0) where
  pub lowered_one : ((x : ℕ) → mark ready w 0 x ≡ true → mark ready' w 0 x ≡ true) → (get_or unmet p 0 - 1 ≡ 0 → mark ready' w 0 p ≡ true)
      → ((x : ℕ) → mark ready' w 0 x ≡ true → (mark ready w 0 x ≡ true) ⊎ ((x ≡ p) × (get_or unmet p 0 - 1 ≡ 0)))
      → LoweredBy (λ (x : ℕ). one (eqb x p)) unmet ready (set unmet p (get_or unmet p 0 - 1)) ready' w
  lowered_one keep put only = record {
    counts = λ x. counts x (ℕ_discrete x p);
    kept = keep;
    new = λ x m e. new x m e (ℕ_discrete x p);
    only = λ x e. only' x (only x e);
  }
    where
      own : get_or (set unmet p (get_or unmet p 0 - 1)) p 0 ≡ get_or unmet p 0 - 1
      own = get_or-set_same unmet p (get_or unmet p 0 - 1) 0 inside

      counts : (x : ℕ) → Dec (x ≡ p) → get_or (set unmet p (get_or unmet p 0 - 1)) x 0 + one (eqb x p) ≡ get_or unmet x 0
      counts x (yes e) = rw e (omega (arith, own, eq_one p p refl))
      counts x (no e) = omega (arith, get_or-set_other unmet p x (get_or unmet p 0 - 1) 0 e, ne_one x p e)

      new : (x : ℕ) → 0 < one (eqb x p) → get_or (set unmet p (get_or unmet p 0 - 1)) x 0 ≡ 0 → Dec (x ≡ p) → mark ready' w 0 x ≡ true
      new x m e (yes y) = rw y (put (sym own ∙ subst (λ (v : ℕ). get_or (set unmet p (get_or unmet p 0 - 1)) v 0 ≡ 0) y e))
      new x m e (no y) = absurd (omega (arith, ne_one x p y))

      only' : (x : ℕ) → (mark ready w 0 x ≡ true) ⊎ ((x ≡ p) × (get_or unmet p 0 - 1 ≡ 0))
          → (mark ready w 0 x ≡ true) ⊎ ((0 < one (eqb x p)) × (get_or (set unmet p (get_or unmet p 0 - 1)) x 0 ≡ 0))
      only' x (inl e) = inl e
      only' x (inr (y, e)) = inr (rw y (omega (arith, eq_one p p refl), own ∙ e))

-- ---- cleared

pub clear_turn : (items unmet : List ℕ) (i p : ℕ) → i < length items → p ≡ get_or items i 0 → p < length unmet → ((x : ℕ) → x ∈ take i items → get_or unmet x 0 ≡ 0)
    → (x : ℕ) → x ∈ take (i + 1) items → get_or (set unmet p 0) x 0 ≡ 0
clear_turn items unmet i p hi z hp old x m = go (ℕ_discrete x p)
  where
    go : Dec (x ≡ p) → get_or (set unmet p 0) x 0 ≡ 0
    go (yes e) = rw e (get_or-set_same unmet p 0 0 hp)
    go (no e) = get_or-set_other unmet p x 0 0 e ∙ old x (omega (arith, count_more x items i hi, ne_one x (get_or items i 0) (λ y. e (y ∙ sym z))))

-- ---- ready

module _ (items unmet ready : List ℕ) (i w p : ℕ) (z : p ≡ get_or items i 0) (hi : i < length items)
    (old : (x : ℕ) → (mark ready w 0 x ≡ true) ↔ ((x ∈ take i items) × (get_or unmet x 0 ≡ 0))) where
  more : (x : ℕ) → x ∈ take i items → x ∈ take (i + 1) items
  more x m = omega (arith, count_more x items i hi)

  pub ready_put : p < 64 * w → get_or unmet p 0 ≡ 0 → (ready' : List ℕ) → Added (λ (b : ℕ). b ≡ p) ready ready' w 0
      → (x : ℕ) → (mark ready' w 0 x ≡ true) ↔ ((x ∈ take (i + 1) items) × (get_or unmet x 0 ≡ 0))
  ready_put hp e ready' add x = (λ m. there (add.only x m), λ y. back y (in_more x items i hi y.0))
    where
      there : (mark ready w 0 x ≡ true) ⊎ (x ≡ p) → (x ∈ take (i + 1) items) × (get_or unmet x 0 ≡ 0)
      there (inl m) = let o = (old x).0 m in (more x o.0, o.1)
      there (inr y) = rw y (omega (arith, count_more p items i hi, eq_one p (get_or items i 0) z), e)

      back : (x ∈ take (i + 1) items) × (get_or unmet x 0 ≡ 0) → (x ∈ take i items) ⊎ (x ≡ get_or items i 0) → mark ready' w 0 x ≡ true
      back y (inl m) = add.kept x ((old x).1 (m, y.1))
      back y (inr m) = let q : x ≡ p = m ∙ sym z in add.new x (omega arith) q

  pub ready_skip : (get_or unmet p 0 ≡ 0 → ⊥) → (x : ℕ) → (mark ready w 0 x ≡ true) ↔ ((x ∈ take (i + 1) items) × (get_or unmet x 0 ≡ 0))
  ready_skip f x = (λ m. let o = (old x).0 m in (more x o.0, o.1), λ y. back y (in_more x items i hi y.0))
    where
      back : (x ∈ take (i + 1) items) × (get_or unmet x 0 ≡ 0) → (x ∈ take i items) ⊎ (x ≡ get_or items i 0) → mark ready w 0 x ≡ true
      back y (inl m) = (old x).1 (m, y.1)
      back y (inr m) = absurd (f (subst (λ (v : ℕ). get_or unmet v 0 ≡ 0) (m ∙ sym z) y.1))
