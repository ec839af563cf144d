-- Lists by positions, lists that rise, and counting by filters.
use mathlib.Core.Path.{◌≡◌, refl, sym, ap, ◌∙◌, subst}
use mathlib.Core.Logic.{◌⊎◌, inl, inr}
use mathlib.Core.List.{List, [], ◌∷◌, ◌++◌}
use mathlib.Core.Bool.{Bool, true, false, not, ◌&&◌, and-true, and-false}
use mathlib.Core.Option.{some}
use Prim.Native.Nat.{ℕ, zero, suc, ◌+◌, ◌≤◌, ◌<◌}
use native.Mathlib.Omega.{arith}
use native.Mathlib.Numerals.{add-one}
use native.Mathlib.Decide.{ℕ_discrete}
use lib.Dec.{eqb, ltb}
use lib.ListN.{length, get_or, take, drop, take-append-drop}
use lib.Seq.{take-suc, get_or-take, length-take-le, take-take}
use Rattle.order.specs.LabelLists.{one, count, ◌∈◌, mem, filter, any, first}
use Rattle.order.proofs.Tests.{both_ways, so_or_not}
use Rattle.order.proofs.Lists.{count_append, count_here, count_there, in_here, in_there, in_right, in_cons, in_append, in_single, mem_of, zero_or_in}
use Rattle.placing.specs.UnmetCounts.{Rising, blocks}

-- ---- positions

pub in_at : (l : List ℕ) (i : ℕ) → i < length l → get_or l i 0 ∈ l
in_at [] i h = absurd (omega arith)
in_at (x ∷ l) zero h = in_here x l
in_at (x ∷ l) (suc i) h = in_there (get_or l i 0) x l (in_at l i (omega arith))

pub in_take : (l : List ℕ) (m i : ℕ) → i < m → m ≤ length l → get_or l i 0 ∈ take m l
in_take l m i h g = subst (λ (x : ℕ). x ∈ take m l) (get_or-take m l i 0 h) (in_at (take m l) i (omega (arith, length-take-le m l g)))

pub take_more : (l : List ℕ) (i : ℕ) → i < length l → take (i + 1) l ≡ take i l ++ get_or l i 0 ∷ []
take_more l i h = rw add-one (take-suc l i 0 h)

pub count_more : (p : ℕ) (l : List ℕ) (i : ℕ) → i < length l → count p (take (i + 1) l) ≡ count p (take i l) + one (eqb p (get_or l i 0))
count_more p l i h = ap (count p) (take_more l i h) ∙ count_append p (take i l) (get_or l i 0 ∷ []) ∙ omega arith

pub in_more : (p : ℕ) (l : List ℕ) (i : ℕ) → i < length l → p ∈ take (i + 1) l → (p ∈ take i l) ⊎ (p ≡ get_or l i 0)
in_more p l i h m = go (in_append p (take i l) (get_or l i 0 ∷ []) (subst (λ (k : List ℕ). p ∈ k) (take_more l i h) m))
  where
    go : (p ∈ take i l) ⊎ (p ∈ get_or l i 0 ∷ []) → (p ∈ take i l) ⊎ (p ≡ get_or l i 0)
    go (inl y) = inl y
    go (inr y) = inr (in_single p (get_or l i 0) y)

pub count_take_le : (p : ℕ) (l : List ℕ) (i m : ℕ) → i ≤ m → count p (take i l) ≤ count p (take m l)
count_take_le p l i m h =
    let e : take i (take m l) ≡ take i l = take-take i m l h in
    omega (arith, count_append p (take i (take m l)) (drop i (take m l)), ap (count p) (take-append-drop i (take m l)), ap (count p) e)

-- ---- filters

filter_cons : (f : ℕ → Bool) (x : ℕ) (l : List ℕ) → length (filter f (x ∷ l)) ≡ one (f x) + length (filter f l)
filter_cons f x l = go (so_or_not (f x))
  where
    go : (f x ≡ true) ⊎ (f x ≡ false) → length (filter f (x ∷ l)) ≡ one (f x) + length (filter f l)
    go (inl e) = rw e (omega arith)
    go (inr e) = rw e (omega arith)

filter_append : (f : ℕ → Bool) (a b : List ℕ) → length (filter f (a ++ b)) ≡ length (filter f a) + length (filter f b)
filter_append f [] b = omega arith
filter_append f (x ∷ a) b = omega (arith, filter_cons f x (a ++ b), filter_cons f x a, filter_append f a b)

pub filter_more : (f : ℕ → Bool) (l : List ℕ) (i : ℕ) → i < length l → length (filter f (take (i + 1) l)) ≡ length (filter f (take i l)) + one (f (get_or l i 0))
filter_more f l i h =
    ap (λ (k : List ℕ). length (filter f k)) (take_more l i h)
    ∙ omega (arith, filter_append f (take i l) (get_or l i 0 ∷ []), filter_cons f (get_or l i 0) [])

pub filter_ext : (f g : ℕ → Bool) (l : List ℕ) → ((x : ℕ) → f x ≡ g x) → length (filter f l) ≡ length (filter g l)
filter_ext f g [] h = refl
filter_ext f g (x ∷ l) h = omega (arith, filter_cons f x l, filter_cons g x l, ap one (h x), filter_ext f g l h)

pub any_zero : (f : ℕ → Bool) (l : List ℕ) → length (filter f l) ≡ 0 → any f l ≡ false
any_zero f [] h = refl
any_zero f (x ∷ l) h = go (f x) refl (any_zero f l)
  where
    go : (t : Bool) → f x ≡ t → (length (filter f l) ≡ 0 → any f l ≡ false) → any f (x ∷ l) ≡ false
    go true e r = absurd (omega (arith, filter_cons f x l, ap one e))
    go false e r = rw e (r (omega (arith, filter_cons f x l)))

pub zero_any : (f : ℕ → Bool) (l : List ℕ) → any f l ≡ false → length (filter f l) ≡ 0
zero_any f [] h = refl
zero_any f (x ∷ l) h = go (f x) refl (zero_any f l)
  where
    go : (t : Bool) → f x ≡ t → (any f l ≡ false → length (filter f l) ≡ 0) → length (filter f (x ∷ l)) ≡ 0
    go true e r = both_ways true refl (rw e at h)
    go false e r = omega (arith, filter_cons f x l, ap one e, r (rw e at h))

-- ---- lists that rise

above : (x : ℕ) (l : List ℕ) → ((y : ℕ) → y ∈ l → x < y) → count x l ≡ 0
above x l h = go (zero_or_in (count x l))
  where
    go : (count x l ≡ 0) ⊎ (x ∈ l) → count x l ≡ 0
    go (inl e) = e
    go (inr m) = absurd (omega (arith, h x m))

pub rising_once : (l : List ℕ) → Rising l → (x : ℕ) → count x l ≤ 1
rising_once [] r x = omega arith
rising_once (y ∷ l) r x = go (ℕ_discrete x y) (rising_once l r.1 x)
  where
    go : Dec (x ≡ y) → count x l ≤ 1 → count x (y ∷ l) ≤ 1
    go (yes e) i = omega (arith, ap (λ (v : ℕ). count v (y ∷ l)) e, count_here y l, above y l r.0)
    go (no e) i = omega (arith, count_there x y l e)

-- the least that passes is the first
pub first_least_is : (f : ℕ → Bool) (l : List ℕ) → Rising l → (r : ℕ) → r ∈ l → f r ≡ true → ((x : ℕ) → x ∈ l → x < r → f x ≡ false) → first f l ≡ some r
first_least_is f [] rs r m e h = absurd (omega arith)
first_least_is f (y ∷ l) rs r m e h = go (in_cons r y l m) (first_least_is f l rs.1 r)
  where
    go : (r ≡ y) ⊎ (r ∈ l) → (r ∈ l → f r ≡ true → ((x : ℕ) → x ∈ l → x < r → f x ≡ false) → first f l ≡ some r) → first f (y ∷ l) ≡ some r
    go (inl z) i = rw (← z) (rw e)
    go (inr k) i = rw (h y (in_here y l) (rs.0 r k)) (i k e (λ x j. h x (in_there x y l j)))

-- ---- one more is done

pub mem_same : (p : ℕ) (l : List ℕ) → mem p (l ++ p ∷ []) ≡ true
mem_same p l = mem_of p (l ++ p ∷ []) (in_right p l (p ∷ []) (in_here p []))

pub mem_other : (x p : ℕ) (l : List ℕ) → (x ≡ p → ⊥) → mem x (l ++ p ∷ []) ≡ mem x l
mem_other x p l h =
    let e : count x (l ++ p ∷ []) ≡ count x l = omega (arith, count_append x l (p ∷ []), count_there x p [] h) in
    ap (λ (c : ℕ). ltb 0 c) e

-- one that was placed blocks no longer
module _ (R : ℕ → ℕ → Bool) (done : List ℕ) (p : ℕ) (out : mem p done ≡ false) (x : ℕ) where
  blocks_other : (y : ℕ) → (y ≡ p → ⊥) → blocks R (done ++ p ∷ []) x y ≡ blocks R done x y
  blocks_other y h = ap (λ (t : Bool). R x y && not t) (mem_other y p done h)

  blocks_placed : blocks R (done ++ p ∷ []) x p ≡ false
  blocks_placed = rw (mem_same p done) (and-false (R x p))

  blocks_before : blocks R done x p ≡ R x p
  blocks_before = rw out (and-true (R x p))

  same_without : (l : List ℕ) → count p l ≡ 0 → length (filter (blocks R (done ++ p ∷ []) x) l) ≡ length (filter (blocks R done x) l)
  same_without [] h = refl
  same_without (y ∷ l) h =
      let d : y ≡ p → ⊥ = λ (e : y ≡ p). omega (arith, subst (λ (z : ℕ). count p (z ∷ l) ≡ 0) e h, count_here p l) in
      omega (arith, filter_cons (blocks R (done ++ p ∷ []) x) y l, filter_cons (blocks R done x) y l, ap one (blocks_other y d), same_without l (omega arith))

  pub one_less : (l : List ℕ) → count p l ≡ 1 → length (filter (blocks R (done ++ p ∷ []) x) l) + one (R x p) ≡ length (filter (blocks R done x) l)
  one_less [] h = absurd (omega arith)
  one_less (y ∷ l) h = go (ℕ_discrete y p) (one_less l)
    where
      go : Dec (y ≡ p) → (count p l ≡ 1 → length (filter (blocks R (done ++ p ∷ []) x) l) + one (R x p) ≡ length (filter (blocks R done x) l))
          → length (filter (blocks R (done ++ p ∷ []) x) (y ∷ l)) + one (R x p) ≡ length (filter (blocks R done x) (y ∷ l))
      go (yes e) r =
          let h₁ : count p (p ∷ l) ≡ 1 = subst (λ (z : ℕ). count p (z ∷ l) ≡ 1) e h in
          let a : blocks R (done ++ p ∷ []) x y ≡ false = ap (λ (z : ℕ). blocks R (done ++ p ∷ []) x z) e ∙ blocks_placed in
          let b : blocks R done x y ≡ R x p = ap (λ (z : ℕ). blocks R done x z) e ∙ blocks_before in
          omega (arith, filter_cons (blocks R (done ++ p ∷ []) x) y l, filter_cons (blocks R done x) y l, ap one a, ap one b, same_without l (omega (arith, count_here p l)))
      go (no e) r =
          omega (
            arith,
            filter_cons (blocks R (done ++ p ∷ []) x) y l,
            filter_cons (blocks R done x) y l,
            ap one (blocks_other y e),
            r
                (omega (arith, count_there p y l (λ (z : p ≡ y). e (sym z)))),
          )
