-- (e) A list passes rows 17 and 18 exactly when it is a proper order, and their places are those of the table.
use mathlib.Core.Path.{◌≡◌, refl, sym, ap, ◌∙◌, subst}
use mathlib.Core.Logic.{◌⊎◌, inl, inr, ◌↔◌}
use mathlib.Core.List.{List, [], ◌∷◌, ◌++◌, append_assoc, map}
use mathlib.Core.Bool.{true, false, not, ◌&&◌}
use Prim.Native.Nat.{ℕ, zero, suc, ◌+◌}
use native.Mathlib.Omega.{arith}
use lib.IntN.{ℤ, pos, negsuc}
use lib.ListN.{length-map}
use borrow.Author.Tests.{not-true}
use Rattle.kinds.specs.Kinds.{value_code}
use Rattle.cells.specs.Cells.{nat_of}
use Rattle.cells.specs.Table.{kind}
use Rattle.cells.specs.Accepted.{Accepted}
use Rattle.cells.specs.Reaches.{Reaches}
use Rattle.order.specs.LabelLists.{one, count, ◌∈◌, mem}
use Rattle.order.specs.Order.{is_v, values, reaches, Proper}
use Rattle.order.specs.Following.{ProperList, labels_of, first_position, not_new, missing, early, place17, place18, NotNew, Missing, Early, NoneBad, Found, Row17, Row18}
use Rattle.order.proofs.Tests.{both_ways, so_or_not, not_so, and_left, and_right, and_intro, or_cases, or_left, or_right}
use Rattle.order.proofs.Lists.{zero_or_in, mem_of, of_mem, any_true, any_intro, count_parts, count_here, split, in_here, in_there}
use Rattle.order.proofs.Positions.{found, first_none, first_one, found_one}
use Rattle.order.proofs.Tables.{v_kind, kind_v, in_values, value_of, reaches_exact}
use Rattle.order.proofs.Proper.{listed_once, listed_value}

-- ---- the tests are the relations

in_or_not : (v : ℕ) (l : List ℕ) → (v ∈ l) ⊎ (v ∈ l → ⊥)
in_or_not v l = go (zero_or_in (count v l))
  where
    go : (count v l ≡ 0) ⊎ (v ∈ l) → (v ∈ l) ⊎ (v ∈ l → ⊥)
    go (inl e) = inr (λ m. omega arith)
    go (inr m) = inl m

not_mem : (v : ℕ) (l : List ℕ) → (not (mem v l) ≡ true) ↔ (v ∈ l → ⊥)
not_mem v l = (λ h m. both_ways (mem v l) (mem_of v l m) (not-true (mem v l) h), λ h. ap not (not_so (mem v l) (λ e. h (of_mem v l e))))

not_new_lem : (t : List ℤ) (a : List ℕ) (v : ℕ) → (not_new t a v ≡ true) ↔ NotNew t a v
not_new_lem t a v = (λ h. there (or_cases (not (is_v t v)) (mem v a) h), back)
  where
    there : (not (is_v t v) ≡ true) ⊎ (mem v a ≡ true) → NotNew t a v
    there (inl h) = inl (λ k. both_ways (is_v t v) (kind_v t v k) (not-true (is_v t v) h))
    there (inr h) = inr (of_mem v a h)

    back : NotNew t a v → not_new t a v ≡ true
    back (inl h) = or_left (not (is_v t v)) (mem v a) (ap not (not_so (is_v t v) (λ e. h (v_kind t v e))))
    back (inr m) = or_right (not (is_v t v)) (mem v a) (mem_of v a m)

-- ---- a list that the rows find nothing in is a proper order, and the other way round

none_proper : (t : List ℤ) (l : List ℕ) → NoneBad (NotNew t) l → (Missing t l → ⊥) → NoneBad (Early t) l → Proper t l
none_proper t l new all late = record { once = λ v. once v (so_or_not (is_v t v)) (in_or_not v l); after = after }
  where
    -- of the two parts round v, neither has v: in front it would be repeated here, behind it would repeat
    once_in : (v : ℕ) → v ∈ l → count v l ≡ 1
    once_in v m = at (split v l m)
      where
        at : (a : List ℕ) × (b : List ℕ) × (l ≡ a ++ v ∷ b) → count v l ≡ 1
        at (a, b, e) = go (zero_or_in (count v a)) (zero_or_in (count v b))
          where
            go : (count v a ≡ 0) ⊎ (v ∈ a) → (count v b ≡ 0) ⊎ (v ∈ b) → count v l ≡ 1
            go (inl x) (inl y) = omega (arith, count_parts v a (v ∷ b) e, count_here v b)
            go (inr x) _ = absurd (new a v b e (inr x))
            go (inl x) (inr y) =
                let w = split v b y in
                let e₁ : l ≡ (a ++ v ∷ w.0) ++ v ∷ w.1 = e ∙ ap (λ (x : List ℕ). a ++ v ∷ x) w.2 ∙ simp append_assoc in
                absurd (new (a ++ v ∷ w.0) v w.1 e₁ (inr (omega (arith, count_parts {o = a ++ v ∷ w.0} v a (v ∷ w.0) refl, count_here v w.0))))

    is_v_lem : (v : ℕ) → v ∈ l → (is_v t v ≡ false → ⊥)
    is_v_lem v m e = let w = split v l m in new w.0 v w.1 w.2 (inl (λ k. both_ways (is_v t v) (kind_v t v k) e))

    once : (v : ℕ) → (is_v t v ≡ true) ⊎ (is_v t v ≡ false) → (v ∈ l) ⊎ (v ∈ l → ⊥) → count v l ≡ one (is_v t v)
    once v (inl e) (inl m) = rw e (once_in v m)
    once v (inl e) (inr m) = absurd (all (v, v_kind t v e, m))
    once v (inr e) (inl m) = absurd (is_v_lem v m e)
    once v (inr e) (inr m) = rw e (none (zero_or_in (count v l)))
      where
        none : (count v l ≡ 0) ⊎ (v ∈ l) → count v l ≡ 0
        none (inl z) = z
        none (inr z) = absurd (m z)

    after : (a : List ℕ) (v : ℕ) (b : List ℕ) → l ≡ a ++ v ∷ b → (w : ℕ) → kind t w ≡ value_code → Reaches t v w → w ∈ a
    after a v b e w k r = go (in_or_not w a)
      where
        go : (w ∈ a) ⊎ (w ∈ a → ⊥) → w ∈ a
        go (inl m) = m
        go (inr m) = absurd (late a v b e (w, k, r, m))

proper_new : (t : List ℤ) (l : List ℕ) → Proper t l → NoneBad (NotNew t) l
proper_new t l p a v b e = go
  where
    c : count v l ≡ count v a + (1 + count v b)
    c = omega (arith, count_parts v a (v ∷ b) e, count_here v b)

    k : kind t v ≡ value_code
    k = listed_value p v (omega (arith, c))

    go : NotNew t a v → ⊥
    go (inl h) = h k
    go (inr m) = omega (arith, c, listed_once p v k)

proper_all : (t : List ℤ) (l : List ℕ) → Proper t l → Missing t l → ⊥
proper_all t l p (v, k, m) = m (omega (arith, listed_once p v k))

proper_late : (t : List ℤ) (l : List ℕ) → Proper t l → NoneBad (Early t) l
proper_late t l p a v b e (w, k, r, m) = m (p.after a v b e w k r)

-- ---- the place of row 17 is one

row17_one : (t : List ℤ) (l : List ℕ) (i j : ℕ) → Row17 t l i → Row17 t l j → i ≡ j
row17_one t l zero zero p q = refl
row17_one t l zero (suc j) p (inl q) = absurd (first_none (NotNew t) l (suc j) q p.0)
row17_one t l zero (suc j) p (inr q) = absurd (p.1 q.1)
row17_one t l (suc i) zero (inl p) q = absurd (first_none (NotNew t) l (suc i) p q.0)
row17_one t l (suc i) zero (inr p) q = absurd (q.1 p.1)
row17_one t l (suc i) (suc j) (inl p) (inl q) = first_one (NotNew t) l (suc i) (suc j) p q
row17_one t l (suc i) (suc j) (inl p) (inr q) = absurd (first_none (NotNew t) l (suc i) p q.0)
row17_one t l (suc i) (suc j) (inr p) (inl q) = absurd (first_none (NotNew t) l (suc j) q p.0)
row17_one t l (suc i) (suc j) (inr p) (inr q) = ap suc (p.2 ∙ sym q.2)

-- ---- cells and labels

pub labels_cells : (o : List ℕ) → labels_of (map pos o) ≡ o
labels_cells [] = refl
labels_cells (v ∷ o) = ap (λ (l : List ℕ). v ∷ l) (labels_cells o)

cells_labels : (cells : List ℤ) → (0 ∈ labels_of cells → ⊥) → cells ≡ map pos (labels_of cells)
cells_labels [] h = refl
cells_labels (pos v ∷ cells) h = ap (λ (l : List ℤ). pos v ∷ l) (cells_labels cells (λ m. h (in_there 0 v (labels_of cells) m)))
cells_labels (negsuc v ∷ cells) h = absurd (h (in_here 0 (labels_of cells)))

pub proper_list : (t : List ℤ) (cells : List ℤ) → ProperList t cells ↔ Proper t (labels_of cells)
proper_list t cells = (there, back)
  where
    there : ProperList t cells → Proper t (labels_of cells)
    there p = let e : labels_of cells ≡ p.order = ap labels_of p.same ∙ labels_cells p.order in rw e p.proper

    -- label 0 is no V
    back : Proper t (labels_of cells) → ProperList t cells
    back p = record { order = labels_of cells; same = cells_labels cells (λ m. omega (arith, listed_value p 0 m)); proper = p }

module _ (t : List ℤ) (n : ℕ) (ok : Accepted t n) where
  early_exact : (a : List ℕ) (v : ℕ) → (early t n a v ≡ true) ↔ Early t a v
  early_exact a v = (there, back)
    where
      there : early t n a v ≡ true → Early t a v
      there h =
          let w = any_true (λ w. reaches t n v w && not (mem w a)) (values t n) h in
          let x = w.0 in (
            x,
            v_kind t x (value_of t n ok x w.1),
            (reaches_exact t n ok v x).0 (and_left (reaches t n v x) (not (mem x a)) w.2),
            (not_mem x a).0 (and_right (reaches t n v x) (not (mem x a)) w.2),
          )

      back : Early t a v → early t n a v ≡ true
      back (w, k, r, m) =
          any_intro (λ w. reaches t n v w && not (mem w a)) (values t n) w (in_values t n ok w (kind_v t w k))
          (and_intro (reaches t n v w) (not (mem w a)) ((reaches_exact t n ok v w).1 r) ((not_mem w a).1 m))

  missing_exact : (l : List ℕ) → (missing t n l ≡ true) ↔ Missing t l
  missing_exact l = (there, back)
    where
      there : missing t n l ≡ true → Missing t l
      there h =
          let w = any_true (λ v. not (mem v l)) (values t n) h in
          (w.0, v_kind t w.0 (value_of t n ok w.0 w.1), (not_mem w.0 l).0 w.2)

      back : Missing t l → missing t n l ≡ true
      back (v, k, m) = any_intro (λ v. not (mem v l)) (values t n) v (in_values t n ok v (kind_v t v k)) ((not_mem v l).1 m)

  module _ (cells : List ℤ) where
    row_17 : Row17 t (labels_of cells) (place17 t n cells)
    row_17 = go (first_position (not_new t) [] 1 (labels_of cells)) refl (found (not_new t) (NotNew t) (not_new_lem t) (labels_of cells)) (so_or_not (missing t n (labels_of cells)))
      where
        go : (r : ℕ) → first_position (not_new t) [] 1 (labels_of cells) ≡ r → Found (NotNew t) (labels_of cells) r
            → (missing t n (labels_of cells) ≡ true) ⊎ (missing t n (labels_of cells) ≡ false) → Row17 t (labels_of cells) (place17 t n cells)
        go zero e f (inl m) = rw (e, m) (inr (f, (missing_exact (labels_of cells)).0 m, sym (length-map cells nat_of)))
        go zero e f (inr m) = rw (e, m) (f, λ i. both_ways (missing t n (labels_of cells)) ((missing_exact (labels_of cells)).1 i) m)
        go (suc k) e f _ = rw e (inl f)

    row_18 : Row18 t (labels_of cells) (place18 t n cells)
    row_18 = found (early t n) (Early t) early_exact (labels_of cells)

    -- the places are those of the table, and no others are
    pub place17_exactly : (k : ℕ) → (place17 t n cells ≡ k) ↔ Row17 t (labels_of cells) k
    place17_exactly k = (λ e. subst (Row17 t (labels_of cells)) e row_17, λ r. row17_one t (labels_of cells) (place17 t n cells) k row_17 r)

    pub place18_exactly : (k : ℕ) → (place18 t n cells ≡ k) ↔ Row18 t (labels_of cells) k
    place18_exactly k = (λ e. subst (Row18 t (labels_of cells)) e row_18, λ r. found_one (Early t) (labels_of cells) (place18 t n cells) k row_18 r)

    -- both rows find nothing exactly when the list is a proper order
    pub follow_exactly : ((place17 t n cells ≡ 0) × (place18 t n cells ≡ 0)) ↔ ProperList t cells
    follow_exactly = (there, back)
      where
        there : (place17 t n cells ≡ 0) × (place18 t n cells ≡ 0) → ProperList t cells
        there (e, f) =
            let a : Row17 t (labels_of cells) 0 = rw e at row_17 in
            let b : Row18 t (labels_of cells) 0 = rw f at row_18 in
            (proper_list t cells).1 (none_proper t (labels_of cells) a.0 a.1 b)

        back : ProperList t cells → (place17 t n cells ≡ 0) × (place18 t n cells ≡ 0)
        back p = (none_17 (place17 t n cells) row_17, none_18 (place18 t n cells) row_18)
          where
            q : Proper t (labels_of cells)
            q = (proper_list t cells).0 p

            none_17 : (k : ℕ) → Row17 t (labels_of cells) k → k ≡ 0
            none_17 zero r = refl
            none_17 (suc k) (inl f) = absurd (proper_new t (labels_of cells) q f.before f.label f.behind f.parts f.bad)
            none_17 (suc k) (inr (_, m, _)) = absurd (proper_all t (labels_of cells) q m)

            none_18 : (k : ℕ) → Row18 t (labels_of cells) k → k ≡ 0
            none_18 zero r = refl
            none_18 (suc k) f = absurd (proper_late t (labels_of cells) q f.before f.label f.behind f.parts f.bad)
