-- Counting, membership, splitting, and the functions of specs/Lists.antt.
use mathlib.Core.Path.{◌≡◌, refl, ap, ◌∙◌, subst}
use mathlib.Core.Logic.{◌⊎◌, inl, inr}
use mathlib.Core.List.{List, [], ◌∷◌, ◌++◌}
use mathlib.Core.Bool.{Bool, true, false, cond}
use mathlib.Core.Option.{Option, none, some}
use Prim.Native.Nat.{ℕ, zero, suc, ◌+◌, ◌≤◌, ◌<◌}
use native.Mathlib.Omega.{arith}
use native.Mathlib.Decide.{ℕ_discrete}
use lib.Dec.{eqb, ltb}
use lib.ListN.{length}
use borrow.Author.Tests.{eqb-true, eqb-false, eq-eqb, ne_eqb, ltb-true, ltb-false, lt-ltb}
pub use Rattle.cells.proofs.Lists.{count_append}
use Rattle.order.specs.LabelLists.{one, count, ◌∈◌, mem, up_from, filter, any, first}
use Rattle.order.proofs.Tests.{both_ways, or_cases, or_none_left, or_none_right, not_so, so_or_not}

-- ---- counting

pub count_here : (x : ℕ) (l : List ℕ) → count x (x ∷ l) ≡ suc (count x l)
count_here x l = rw (eq-eqb x x refl) (omega arith)

pub count_there : (x y : ℕ) (l : List ℕ) → (x ≡ y → ⊥) → count x (y ∷ l) ≡ count x l
count_there x y l h = rw (ne_eqb x y h) (omega arith)

pub count_parts : {o : List ℕ} (x : ℕ) (a b : List ℕ) → o ≡ a ++ b → count x o ≡ count x a + count x b
count_parts x a b e = ap (count x) e ∙ count_append x a b

pub in_here : (x : ℕ) (l : List ℕ) → x ∈ x ∷ l
in_here x l = omega (arith, count_here x l)

pub in_there : (x y : ℕ) (l : List ℕ) → x ∈ l → x ∈ y ∷ l
in_there x y l h = omega arith

pub in_left : (x : ℕ) (a b : List ℕ) → x ∈ a → x ∈ a ++ b
in_left x a b h = omega (arith, count_append x a b)

pub in_right : (x : ℕ) (a b : List ℕ) → x ∈ b → x ∈ a ++ b
in_right x a b h = omega (arith, count_append x a b)

pub zero_or_in : (n : ℕ) → (n ≡ 0) ⊎ (0 < n)
zero_or_in zero = inl refl
zero_or_in (suc n) = inr (omega arith)

pub in_cons : (x y : ℕ) (l : List ℕ) → x ∈ y ∷ l → (x ≡ y) ⊎ (x ∈ l)
in_cons x y l h = go (eqb x y) refl
  where
    go : (t : Bool) → eqb x y ≡ t → (x ≡ y) ⊎ (x ∈ l)
    go true e = inl (eqb-true x y e)
    go false e = inr (omega (arith, rw e at h))

pub in_single : (x y : ℕ) → x ∈ y ∷ [] → x ≡ y
in_single x y h = go (in_cons x y [] h)
  where
    go : (x ≡ y) ⊎ (x ∈ []) → x ≡ y
    go (inl e) = e
    go (inr e) = absurd (omega arith)

pub in_append : (x : ℕ) (a b : List ℕ) → x ∈ a ++ b → (x ∈ a) ⊎ (x ∈ b)
in_append x a b h = go (zero_or_in (count x a))
  where
    go : (count x a ≡ 0) ⊎ (x ∈ a) → (x ∈ a) ⊎ (x ∈ b)
    go (inl e) = inr (omega (arith, count_append x a b))
    go (inr e) = inl e

-- a list that has x is split at it
pub split : (x : ℕ) (l : List ℕ) → x ∈ l → (a : List ℕ) × (b : List ℕ) × (l ≡ a ++ x ∷ b)
split x [] h = absurd (omega arith)
split x (y ∷ l) h = go (in_cons x y l h) (split x l)
  where
    go : (x ≡ y) ⊎ (x ∈ l) → (x ∈ l → (a : List ℕ) × (b : List ℕ) × (l ≡ a ++ x ∷ b)) → (a : List ℕ) × (b : List ℕ) × (y ∷ l ≡ a ++ x ∷ b)
    go (inl e) r = ([], l, rw e)
    go (inr h) r = let s = r h in (y ∷ s.0, s.1, ap (λ (m : List ℕ). y ∷ m) s.2)

-- ---- filter, up_from, any, first

pub count_filter_pass : (f : ℕ → Bool) (x : ℕ) (l : List ℕ) → f x ≡ true → count x (filter f l) ≡ count x l
count_filter_pass f x [] h = refl
count_filter_pass f x (y ∷ l) h = go (f y) refl (count_filter_pass f x l h)
  where
    go : (t : Bool) → f y ≡ t → count x (filter f l) ≡ count x l → count x (filter f (y ∷ l)) ≡ count x (y ∷ l)
    go true e r = rw (e, r)
    go false e r =
        let d : eqb x y ≡ false = ne_eqb x y (λ (q : x ≡ y). both_ways (f y) (rw q at h) e) in
        rw (e, d, r) (omega arith)

pub count_filter_fail : (f : ℕ → Bool) (x : ℕ) (l : List ℕ) → f x ≡ false → count x (filter f l) ≡ 0
count_filter_fail f x [] h = refl
count_filter_fail f x (y ∷ l) h = go (f y) refl (count_filter_fail f x l h)
  where
    go : (t : Bool) → f y ≡ t → count x (filter f l) ≡ 0 → count x (filter f (y ∷ l)) ≡ 0
    go true e r =
        let d : eqb x y ≡ false = ne_eqb x y (λ (q : x ≡ y). both_ways (f y) e (rw q at h)) in
        rw (e, d, r) (omega arith)
    go false e r = rw (e, r)

pub in_filter : (f : ℕ → Bool) (x : ℕ) (l : List ℕ) → x ∈ filter f l → (x ∈ l) × (f x ≡ true)
in_filter f x l h = go (so_or_not (f x))
  where
    go : (f x ≡ true) ⊎ (f x ≡ false) → (x ∈ l) × (f x ≡ true)
    go (inl e) = (omega (arith, count_filter_pass f x l e), e)
    go (inr e) = absurd (omega (arith, count_filter_fail f x l e))

pub count_below : (x m k : ℕ) → x < m → count x (up_from m k) ≡ 0
count_below x m zero h = refl
count_below x m (suc k) h =
    rw (ne_eqb x m (λ (e : x ≡ m). omega arith), count_below x (suc m) k (omega arith)) (omega arith)

pub count_above : (x m k : ℕ) → m + k ≤ x → count x (up_from m k) ≡ 0
count_above x m zero h = refl
count_above x m (suc k) h =
    rw (ne_eqb x m (λ (e : x ≡ m). omega arith), count_above x (suc m) k (omega arith)) (omega arith)

pub count_up_from : (x m k : ℕ) → m ≤ x → x < m + k → count x (up_from m k) ≡ 1
count_up_from x m zero h₁ h₂ = absurd (omega arith)
count_up_from x m (suc k) h₁ h₂ = go (eqb x m) refl (count_up_from x (suc m) k)
  where
    go : (t : Bool) → eqb x m ≡ t → (suc m ≤ x → x < suc m + k → count x (up_from (suc m) k) ≡ 1) → count x (up_from m (suc k)) ≡ 1
    go true e r =
        let q : x ≡ m = eqb-true x m e in
        rw (e, count_below x (suc m) k (omega arith)) (omega arith)
    go false e r =
        let q : ¬ (x ≡ m) = eqb-false x m e in
        rw (e, r (omega arith) (omega arith)) (omega arith)

pub length_up_from : (m k : ℕ) → length (up_from m k) ≡ k
length_up_from m zero = refl
length_up_from m (suc k) = ap suc (length_up_from (suc m) k)

pub any_true : (f : ℕ → Bool) (l : List ℕ) → any f l ≡ true → (x : ℕ) × (x ∈ l) × (f x ≡ true)
any_true f [] h = both_ways false h refl
any_true f (y ∷ l) h = go (or_cases (f y) (any f l) h) (any_true f l)
  where
    go : (f y ≡ true) ⊎ (any f l ≡ true) → (any f l ≡ true → (x : ℕ) × (x ∈ l) × (f x ≡ true)) → (x : ℕ) × (x ∈ y ∷ l) × (f x ≡ true)
    go (inl e) r = (y, in_here y l, e)
    go (inr e) r = let s = r e in (s.0, in_there s.0 y l s.1, s.2)

pub any_none : (f : ℕ → Bool) (l : List ℕ) → any f l ≡ false → (x : ℕ) → x ∈ l → f x ≡ false
any_none f [] h x m = absurd (omega arith)
any_none f (y ∷ l) h x m = go (in_cons x y l m) (any_none f l (or_none_right (f y) (any f l) h) x)
  where
    go : (x ≡ y) ⊎ (x ∈ l) → (x ∈ l → f x ≡ false) → f x ≡ false
    go (inl e) r = rw e (or_none_left (f y) (any f l) h)
    go (inr e) r = r e

pub any_intro : (f : ℕ → Bool) (l : List ℕ) (x : ℕ) → x ∈ l → f x ≡ true → any f l ≡ true
any_intro f l x m h = go (so_or_not (any f l))
  where
    go : (any f l ≡ true) ⊎ (any f l ≡ false) → any f l ≡ true
    go (inl e) = e
    go (inr e) = both_ways (f x) h (any_none f l e x m)

pub any_refute : (f : ℕ → Bool) (l : List ℕ) → ((x : ℕ) → x ∈ l → f x ≡ false) → any f l ≡ false
any_refute f l h = not_so (any f l) (λ e. let s = any_true f l e in both_ways (f s.0) s.2 (h s.0 s.1))

pub first_some : (f : ℕ → Bool) (l : List ℕ) (p : ℕ) → first f l ≡ some p → (p ∈ l) × (f p ≡ true)
first_some f [] p h = absurd (let z : ◌≡◌ {A = ℕ} 0 1 = cc in omega arith)
first_some f (y ∷ l) p h = go (f y) refl (first_some f l p)
  where
    go : (t : Bool) → f y ≡ t → (first f l ≡ some p → (p ∈ l) × (f p ≡ true)) → (p ∈ y ∷ l) × (f p ≡ true)
    go true e r =
        let h₁ : some y ≡ some p = rw e at h in
        let q : y ≡ p = cc in
        (subst (λ (x : ℕ). x ∈ y ∷ l) q (in_here y l), subst (λ (x : ℕ). f x ≡ true) q e)
    go false e r = let s = r (rw e at h) in (in_there p y l s.0, s.1)

pub first_none : (f : ℕ → Bool) (l : List ℕ) → first f l ≡ none → (x : ℕ) → x ∈ l → f x ≡ false
first_none f [] h x m = absurd (omega arith)
first_none f (y ∷ l) h x m = go (f y) refl (λ k. first_none f l k x)
  where
    go : (t : Bool) → f y ≡ t → (first f l ≡ none → x ∈ l → f x ≡ false) → f x ≡ false
    go true e r =
        let h₁ : ◌≡◌ {A = Option ℕ} (some y) none = rw e at h in
        absurd (let z : ◌≡◌ {A = ℕ} 0 1 = cc in omega arith)
    go false e r = other (in_cons x y l m)
      where
        other : (x ≡ y) ⊎ (x ∈ l) → f x ≡ false
        other (inl q) = rw q e
        other (inr k) = r (rw e at h) k

pub first_refute : (f : ℕ → Bool) (l : List ℕ) → ((x : ℕ) → x ∈ l → f x ≡ false) → first f l ≡ none
first_refute f [] h = refl
first_refute f (y ∷ l) h = rw (h y (in_here y l)) (first_refute f l (λ x m. h x (in_there x y l m)))

-- in an ascending list, nothing below the first that passes does
pub first_least : (f g : ℕ → Bool) (m k v : ℕ) → first f (filter g (up_from m k)) ≡ some v
    → (w : ℕ) → m ≤ w → w < v → g w ≡ true → f w ≡ false
first_least f g m zero v h w a b p = absurd (let z : ◌≡◌ {A = ℕ} 0 1 = cc in omega arith)
first_least f g m (suc k) v h w a b p = go (so_or_not (g m)) (so_or_not (f m)) (ℕ_discrete w m) (λ i j. first_least f g (suc m) k v i w j b p)
  where
    go : (g m ≡ true) ⊎ (g m ≡ false) → (f m ≡ true) ⊎ (f m ≡ false) → Dec (w ≡ m)
        → (first f (filter g (up_from (suc m) k)) ≡ some v → suc m ≤ w → f w ≡ false) → f w ≡ false
    go (inr q) _ (yes e) r = both_ways (g w) p (rw e q)
    go (inr q) _ (no e) r = r (rw q at h) (omega arith)
    go (inl q) (inl i) _ r =
        let h₁ : some m ≡ some v = rw (q, i) at h in
        let z : m ≡ v = cc in
        absurd (omega arith)
    go (inl q) (inr i) (yes e) r = rw e i
    go (inl q) (inr i) (no e) r = r (rw (q, i) at h) (omega arith)

-- l without the first x in it
abbrev remove : ℕ → List ℕ → List ℕ
remove x [] = []
remove x (y ∷ l) = cond (eqb x y) l (y ∷ remove x l)

count_remove : (x p : ℕ) (l : List ℕ) → p ∈ l → count x l ≡ one (eqb x p) + count x (remove p l)
count_remove x p [] h = absurd (omega arith)
count_remove x p (y ∷ l) h = go (eqb p y) refl (count_remove x p l)
  where
    go : (t : Bool) → eqb p y ≡ t → (p ∈ l → count x l ≡ one (eqb x p) + count x (remove p l))
        → count x (y ∷ l) ≡ one (eqb x p) + count x (remove p (y ∷ l))
    go true e r = rw (e, eqb-true p y e)
    go false e r = let h₁ = r (omega (arith, rw e at h)) in rw e (omega arith)

length_remove : (p : ℕ) (l : List ℕ) → p ∈ l → length l ≡ suc (length (remove p l))
length_remove p [] h = absurd (omega arith)
length_remove p (y ∷ l) h = go (eqb p y) refl (length_remove p l)
  where
    go : (t : Bool) → eqb p y ≡ t → (p ∈ l → length l ≡ suc (length (remove p l))) → length (y ∷ l) ≡ suc (length (remove p (y ∷ l)))
    go true e r = rw e
    go false e r = let h₁ = r (omega (arith, rw e at h)) in rw e (omega arith)

-- ---- `mem`, and lists that hold no more than another

pub mem_of : (x : ℕ) (l : List ℕ) → x ∈ l → mem x l ≡ true
mem_of x l h = lt-ltb 0 (count x l) h

pub of_mem : (x : ℕ) (l : List ℕ) → mem x l ≡ true → x ∈ l
of_mem x l h = ltb-true 0 (count x l) h

pub of_not_mem : (x : ℕ) (l : List ℕ) → mem x l ≡ false → count x l ≡ 0
of_not_mem x l h = omega (arith, ltb-false 0 (count x l) h)

-- without one that both hold
less : (x : ℕ) (a b : List ℕ) → ((z : ℕ) → count z (x ∷ a) ≤ count z b) → (x ∈ b) × ((z : ℕ) → count z a ≤ count z (remove x b))
less x a b h = (there, λ z. omega (arith, h z, count_remove z x b there))
  where
    there : x ∈ b
    there = omega (arith, h x, count_here x a)

pub length_mono : (a b : List ℕ) → ((x : ℕ) → count x a ≤ count x b) → length a ≤ length b
length_mono [] b h = omega arith
length_mono (x ∷ a) b h =
    let w = less x a b h in
    let i = length_mono a (remove x b) w.1 in
    omega (arith, length_remove x b w.0)

pub count_same : (a b : List ℕ) → ((x : ℕ) → count x a ≤ count x b) → length a ≡ length b → (x : ℕ) → count x a ≡ count x b
count_same [] [] h e x = refl
count_same [] (y ∷ b) h e x = absurd (omega arith)
count_same (y ∷ a) b h e x =
    let w = less y a b h in
    let i = count_same a (remove y b) w.1 (omega (arith, length_remove y b w.0)) x in
    omega (arith, count_remove x y b w.0)

pub count_filter_le : (f : ℕ → Bool) (x : ℕ) (l : List ℕ) → count x (filter f l) ≤ count x l
count_filter_le f x l = go (so_or_not (f x))
  where
    go : (f x ≡ true) ⊎ (f x ≡ false) → count x (filter f l) ≤ count x l
    go (inl e) = omega (arith, count_filter_pass f x l e)
    go (inr e) = omega (arith, count_filter_fail f x l e)

pub up_from_once : (x m k : ℕ) → count x (up_from m k) ≤ 1
up_from_once x m k = low (so_or_not (ltb x m)) (so_or_not (ltb x (m + k)))
  where
    low : (ltb x m ≡ true) ⊎ (ltb x m ≡ false) → (ltb x (m + k) ≡ true) ⊎ (ltb x (m + k) ≡ false) → count x (up_from m k) ≤ 1
    low (inl e) _ = omega (arith, count_below x m k (ltb-true x m e))
    low (inr e) (inl d) = omega (arith, count_up_from x m k (ltb-false x m e) (ltb-true x (m + k) d))
    low (inr e) (inr d) = omega (arith, count_above x m k (ltb-false x (m + k) d))

-- ---- how many pass one test, and a wider one

module _ (f g : ℕ → Bool) where
  pub tally_le : (l : List ℕ) → ((x : ℕ) → x ∈ l → f x ≡ true → g x ≡ true) → length (filter f l) ≤ length (filter g l)
  tally_le [] h = omega arith
  tally_le (y ∷ l) h = go (f y) refl (tally_le l (λ x m. h x (in_there x y l m))) (so_or_not (g y))
    where
      go : (t : Bool) → f y ≡ t → length (filter f l) ≤ length (filter g l) → (g y ≡ true) ⊎ (g y ≡ false) → length (filter f (y ∷ l)) ≤ length (filter g (y ∷ l))
      go true e r _ = rw (e, h y (in_here y l) e) (omega arith)
      go false e r (inl d) = rw (e, d) (omega arith)
      go false e r (inr d) = rw (e, d) r

  pub tally_lt : (l : List ℕ) → ((x : ℕ) → x ∈ l → f x ≡ true → g x ≡ true)
      → (z : ℕ) → z ∈ l → f z ≡ false → g z ≡ true → length (filter f l) < length (filter g l)
  tally_lt [] h z m p q = absurd (omega arith)
  tally_lt (y ∷ l) h z m p q = go (in_cons z y l m) (λ k. tally_lt l (λ x i. h x (in_there x y l i)) z k p q) (so_or_not (f y)) (so_or_not (g y))
    where
      go : (z ≡ y) ⊎ (z ∈ l) → (z ∈ l → length (filter f l) < length (filter g l)) → (f y ≡ true) ⊎ (f y ≡ false) → (g y ≡ true) ⊎ (g y ≡ false)
          → length (filter f (y ∷ l)) < length (filter g (y ∷ l))
      go (inl e) r _ _ =
          let i = tally_le l (λ x k. h x (in_there x y l k)) in
          rw (rw e at p, rw e at q) (omega arith)
      go (inr k) r (inl e) _ = let i = r k in rw (e, h y (in_here y l) e) (omega arith)
      go (inr k) r (inr e) (inl d) = let i = r k in rw (e, d) (omega arith)
      go (inr k) r (inr e) (inr d) = rw (e, d) (r k)

pub filter_le : (f : ℕ → Bool) (l : List ℕ) → length (filter f l) ≤ length l
filter_le f [] = omega arith
filter_le f (x ∷ l) = go (so_or_not (f x)) (filter_le f l)
  where
    go : (f x ≡ true) ⊎ (f x ≡ false) → length (filter f l) ≤ length l → length (filter f (x ∷ l)) ≤ length (x ∷ l)
    go (inl e) r = rw e (omega arith)
    go (inr e) r = rw e (omega arith)

pub in_filter_of : (f : ℕ → Bool) (x : ℕ) (l : List ℕ) → x ∈ l → f x ≡ true → x ∈ filter f l
in_filter_of f x l m h = omega (arith, count_filter_pass f x l h)

pub filter_in : (f : ℕ → Bool) (l : List ℕ) (x : ℕ) → x ∈ l → f x ≡ true → 0 < length (filter f l)
filter_in f l x m h = go (filter f l) (in_filter_of f x l m h)
  where
    go : (k : List ℕ) → x ∈ k → 0 < length k
    go [] i = i
    go (y ∷ k) i = omega arith
