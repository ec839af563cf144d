-- Items that need only such as stand before them are placed as they stand.
use mathlib.Core.Path.{◌≡◌, refl, sym, ap, ◌∙◌, subst}
use mathlib.Core.Logic.{◌⊎◌, inl, inr}
use mathlib.Core.List.{List, [], ◌∷◌}
use mathlib.Core.Bool.{Bool, true, false, not, ◌&&◌, and-false}
use mathlib.Core.Option.{some}
use Prim.Native.Nat.{ℕ, zero, suc, ◌+◌, ◌*◌, ◌≤◌, ◌<◌}
use native.Mathlib.Omega.{arith}
use native.Mathlib.Decide.{dec_lt}
use lib.Dec.{ltb}
use lib.ListN.{length, get_or, take}
use lib.Seq.{take_all}
use borrow.Author.Tests.{lt-ltb, ltb-true}
use Rattle.order.specs.LabelLists.{one, count, ◌∈◌, mem}
use Rattle.order.specs.Placing.{waits, next, rounds, placed}
use Rattle.order.proofs.Tests.{both_ways, so_or_not, and_left, one_in}
use Rattle.order.proofs.Lists.{any_refute, in_here, in_there, in_cons, mem_of}
use Rattle.marks.specs.Marks.{mark}
use Rattle.placing.specs.UnmetCounts.{Rising, needed, Ordered}
use Rattle.placing.proofs.Lists.{in_at, in_more, take_more, count_more, count_take_le, rising_once, first_least_is}
use Rattle.placing.proofs.Counts.{eq_one}

-- ---- the rule

-- what is below item k stands before it
lower_before : (l : List ℕ) → Rising l → (k x : ℕ) → k < length l → x ∈ l → x < get_or l k 0 → x ∈ take k l
lower_before [] rs k x h m s = absurd (omega arith)
lower_before (y ∷ l) rs zero x h m s = go (in_cons x y l m)
  where
    go : (x ≡ y) ⊎ (x ∈ l) → x ∈ take 0 (y ∷ l)
    go (inl e) = absurd (omega arith)
    go (inr i) = absurd (omega (arith, rs.0 x i))
lower_before (y ∷ l) rs (suc k) x h m s = go (in_cons x y l m) (lower_before l rs.1 k x (omega arith))
  where
    go : (x ≡ y) ⊎ (x ∈ l) → (x ∈ l → x < get_or l k 0 → x ∈ take k l) → x ∈ y ∷ take k l
    go (inl e) r = subst (λ (z : ℕ). z ∈ y ∷ take k l) (sym e) (in_here y (take k l))
    go (inr i) r = in_there x y (take k l) (r i s)

module _ (R : ℕ → ℕ → Bool) (items : List ℕ) (rising : Rising items) (o : Ordered R items) where
  module _ (k : ℕ) (h : k < length items) where
    before : (x : ℕ) → x ∈ items → x < get_or items k 0 → mem x (take k items) ≡ true
    before x m s = mem_of x (take k items) (lower_before items rising k x h m s)

    new : mem (get_or items k 0) (take k items) ≡ false
    new = ap (λ (c : ℕ). ltb 0 c) none
      where
        none : count (get_or items k 0) (take k items) ≡ 0
        none = omega (
          arith,
          count_more (get_or items k 0) items k h,
          eq_one (get_or items k 0) (get_or items k 0) refl,
          count_take_le (get_or items k 0) items (k + 1) (length items) (omega arith),
          ap (count (get_or items k 0)) (take_all (length items) items (omega arith)),
          rising_once items rising (get_or items k 0),
        )

    free : waits R items (take k items) (get_or items k 0) ≡ false
    free = any_refute (λ q. R (get_or items k 0) q && not (mem q (take k items))) items (λ q m. go q m (so_or_not (R (get_or items k 0) q)))
      where
        go : (q : ℕ) → q ∈ items → (R (get_or items k 0) q ≡ true) ⊎ (R (get_or items k 0) q ≡ false) → (R (get_or items k 0) q && not (mem q (take k items))) ≡ false
        go q m (inl e) = rw (before q m (o (get_or items k 0) q m e)) (and-false (R (get_or items k 0) q))
        go q m (inr e) = rw e

    next_is : next R items (take k items) ≡ some (get_or items k 0)
    next_is =
        first_least_is (λ p. not (mem p (take k items)) && not (waits R items (take k items) p)) items rising (get_or items k 0) (in_at items k h) (rw (new, free))
        (λ x m s. rw (before x m s))

  as_listed : (j k : ℕ) → j + k ≡ length items → rounds R items j (take k items) ≡ items
  as_listed zero k e = take_all k items (omega arith)
  as_listed (suc j) k e =
      let h : k < length items = omega arith in
      rw (next_is k h) (ap (rounds R items j) (sym (take_more items k h)) ∙ as_listed j (k + 1) (omega arith))

  pub placed_as_listed : placed R items ≡ items
  placed_as_listed = as_listed (length items) 0 (omega arith)

-- ---- its test

-- none is below the first of a list that rises
first_least : (x : ℕ) (l : List ℕ) → Rising (x ∷ l) → (p : ℕ) → p < x → count p (x ∷ l) ≡ 0
first_least x l r p h = go (dec_lt 0 (count p (x ∷ l)))
  where
    by : (p ≡ x) ⊎ (p ∈ l) → count p (x ∷ l) ≡ 0
    by (inl e) = absurd (omega arith)
    by (inr i) = absurd (omega (arith, r.0 p i))

    go : Dec (0 < count p (x ∷ l)) → count p (x ∷ l) ≡ 0
    go (yes i) = by (in_cons p x l i)
    go (no i) = omega arith

module _ (square mask : List ℕ) (w q k : ℕ) (l : List ℕ)
    (counted : (p : ℕ) → count p l ≡ one (ltb p (64 * k) && mark square w q p && mark mask w 0 p)) where
  -- what is not among the marks below k does not need q
  unneeded : (p : ℕ) → p < 64 * k → count p l ≡ 0 → needed square mask w p q ≡ false
  unneeded p h z = go (mark square w q p) refl (mark mask w 0 p) refl
    where
      go : (a : Bool) → mark square w q p ≡ a → (b : Bool) → mark mask w 0 p ≡ b → needed square mask w p q ≡ false
      go true x true y =
          let one-is : one (ltb p (64 * k) && mark square w q p && mark mask w 0 p) ≡ 1 = rw (lt-ltb p (64 * k) h, x, y) in
          absurd (omega (arith, counted p))
      go true x false y = rw (x, y) (and-false (mark mask w 0 q))
      go false x b y = rw x (and-false (mark mask w 0 q))

  pub none_free : l ≡ [] → (p : ℕ) → p < 64 * k → needed square mask w p q ≡ false
  none_free e p h = unneeded p h (ap (count p) e)

  pub first_free : (x : ℕ) (r : List ℕ) → Rising l → l ≡ x ∷ r → (p : ℕ) → p < x → needed square mask w p q ≡ false
  first_free x r rs e p h =
      let own : (ltb x (64 * k) && mark square w q x && mark mask w 0 x) ≡ true =
      one_in _ (omega (arith, counted x, ap (count x) e, in_here x r)) in
      let within : x < 64 * k = ltb-true x (64 * k) (and_left (ltb x (64 * k)) (mark square w q x) (and_left (ltb x (64 * k) && mark square w q x) (mark mask w 0 x) own)) in
      unneeded p (omega arith) (ap (count p) e ∙ first_least x r (subst Rising e rs) p h)

-- ---- its loop

pub ordered_turn : (R : ℕ → ℕ → Bool) (items : List ℕ) (i q : ℕ) → i < length items → q ≡ get_or items i 0
    → ((p : ℕ) → p ≤ q → R p q ≡ false) → Ordered R (take i items) → Ordered R (take (i + 1) items)
ordered_turn R items i q h e f old p x m n = go (in_more x items i h m)
  where
    go : (x ∈ take i items) ⊎ (x ≡ get_or items i 0) → x < p
    go (inl y) = old p x y n
    go (inr y) = by (dec_lt x p)
      where
        by : Dec (x < p) → x < p
        by (yes g) = g
        by (no g) = both_ways (R p x) n (ap (R p) (y ∙ sym e) ∙ f p (omega arith))
