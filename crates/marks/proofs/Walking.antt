-- Laws of a walk along the words of a row and a mask.
use mathlib.Core.Path.{◌≡◌, refl, ap, ◌∙◌}
use mathlib.Core.Logic.{◌⊎◌, inl, inr}
use mathlib.Core.List.{List, [], ◌∷◌, ◌++◌}
use mathlib.Core.Bool.{◌&&◌}
use Prim.Native.Nat.{ℕ, zero, suc, ◌+◌, ◌-◌, ◌*◌, ◌/◌, ◌%◌, ◌≤◌, ◌<◌}
use native.Mathlib.Omega.{arith}
use native.Mathlib.Decide.{ℕ_discrete, dec_lt}
use lib.Bits.{bit_and}
use lib.Dec.{eqb, ltb}
use lib.ListN.{length, get_or, take, drop, length-append}
use lib.Seq.{take_all}
use borrow.Author.Tests.{lt-ltb, le-ltb, eq-eqb, ne_eqb}
use Rattle.order.specs.LabelLists.{one, count, ◌∈◌}
use Rattle.order.proofs.Lists.{count_append, in_append}
use Rattle.marks.specs.Marks.{bit, mark, places, shared, Rising}
use Rattle.marks.proofs.Bits.{bit_and_lem, places_le, places_from, places_rising, count_low, count_high, count_place}
use Rattle.marks.proofs.Squares.{inside, rising_join}

-- ---- the places that words have in common

pub shared_from : (m : ℕ) (xs ys : List ℕ) (q : ℕ) → q ∈ shared m xs ys → m ≤ q
unfolding shared
shared_from m [] ys q h = absurd (omega arith)
shared_from m (x ∷ xs) [] q h = absurd (omega arith)
shared_from m (x ∷ xs) (y ∷ ys) q h = go (in_append q (places 64 m (bit_and x y)) (shared (m + 64) xs ys) h) (shared_from (m + 64) xs ys q)
  where
    go : (q ∈ places 64 m (bit_and x y)) ⊎ (q ∈ shared (m + 64) xs ys) → (q ∈ shared (m + 64) xs ys → m + 64 ≤ q) → m ≤ q
    go (inl i) _ = places_from 64 m (bit_and x y) q i
    go (inr i) r = omega (arith, r i)

places_under : (m x q : ℕ) → q ∈ places 64 m x → q < m + 64
places_under m x q h = go (dec_lt q (m + 64))
  where
    go : Dec (q < m + 64) → q < m + 64
    go (yes l) = l
    go (no l) = absurd (omega (arith, count_high 64 m x q (omega arith)))

pub shared_rising : (m : ℕ) (xs ys : List ℕ) → Rising (shared m xs ys)
unfolding shared
shared_rising m [] ys = tt
shared_rising m (x ∷ xs) [] = tt
shared_rising m (x ∷ xs) (y ∷ ys) =
    let z = bit_and x y in
    rising_join (places 64 m z) (shared (m + 64) xs ys) (m + 64) (places_rising 64 m z) (places_under m z) (shared_rising (m + 64) xs ys) (shared_from (m + 64) xs ys)

pub shared_few : (m : ℕ) (xs ys : List ℕ) → length (shared m xs ys) ≤ 64 * length xs
unfolding shared
shared_few m [] ys = omega arith
shared_few m (x ∷ xs) [] = omega arith
shared_few m (x ∷ xs) (y ∷ ys) =
    let z = places 64 m (bit_and x y) in
    omega (arith, length-append z (shared (m + 64) xs ys), places_le 64 m (bit_and x y), shared_few (m + 64) xs ys)

shared_past : (m : ℕ) (xs ys : List ℕ) (q : ℕ) → m + 64 * length xs ≤ q → count q (shared m xs ys) ≡ 0
unfolding shared
shared_past m [] ys q h = refl
shared_past m (x ∷ xs) [] q h = refl
shared_past m (x ∷ xs) (y ∷ ys) q h =
    let z = bit_and x y in
    omega (arith, count_append q (places 64 m z) (shared (m + 64) xs ys), count_high 64 m z q (omega arith), shared_past (m + 64) xs ys q (omega arith))

shared_low : (m : ℕ) (xs ys : List ℕ) (q : ℕ) → q < m → count q (shared m xs ys) ≡ 0
shared_low m xs ys q h = go (dec_lt 0 (count q (shared m xs ys)))
  where
    go : Dec (0 < count q (shared m xs ys)) → count q (shared m xs ys) ≡ 0
    go (yes i) = absurd (omega (arith, shared_from m xs ys q i))
    go (no i) = omega arith

shared_at : (m : ℕ) (xs ys : List ℕ) (j i q : ℕ) → length ys ≡ length xs → j < length xs → i < 64 → q ≡ m + 64 * j + i
    → count q (shared m xs ys) ≡ one (bit (get_or xs j 0) i && bit (get_or ys j 0) i)
unfolding shared
shared_at m [] ys j i q e hj hi z = absurd (omega arith)
shared_at m (x ∷ xs) [] j i q e hj hi z = absurd (omega arith)
shared_at m (x ∷ xs) (y ∷ ys) zero i q e hj hi z =
    let v = bit_and x y in
    let a : q ≡ m + i = omega arith in
    let c : count q (places 64 m v) ≡ one (bit v i) = ap (λ (r : ℕ). count r (places 64 m v)) a ∙ count_place 64 m v i hi in
    omega (arith, count_append q (places 64 m v) (shared (m + 64) xs ys), c, ap one (bit_and_lem x y i), shared_low (m + 64) xs ys q (omega arith))
shared_at m (x ∷ xs) (y ∷ ys) (suc j) i q e hj hi z =
    let v = bit_and x y in
    omega (
      arith,
      count_append q (places 64 m v) (shared (m + 64) xs ys),
      count_high 64 m v q (omega arith),
      shared_at (m + 64) xs ys j i q (omega arith) (omega arith) hi (omega arith),
    )

-- ---- the first k words of a row and of a mask

module _ (s mask : List ℕ) (w p k : ℕ) (hk : k ≤ w) (xs ys : List ℕ) (lx : length xs ≡ k) (ly : length ys ≡ k)
    (row : (j : ℕ) → j < k → get_or xs j 0 ≡ get_or s (p * w + j) 0) (own : (j : ℕ) → j < k → get_or ys j 0 ≡ get_or mask j 0) where
  pub shared_marks : (q : ℕ) → count q (shared 0 xs ys) ≡ one (ltb q (64 * k) && mark s w p q && mark mask w 0 q)
  shared_marks q = go (dec_lt q (64 * k))
    where
      go : Dec (q < 64 * k) → count q (shared 0 xs ys) ≡ one (ltb q (64 * k) && mark s w p q && mark mask w 0 q)
      go (no h) = rw (le-ltb q (64 * k) (omega arith)) (shared_past 0 xs ys q (omega arith))
      go (yes h) =
          let e : 0 * w + q / 64 ≡ q / 64 = omega arith in
          rw (lt-ltb q (64 * k) h, inside s w p q (omega arith), inside mask w 0 q (omega arith), e, ← row (q / 64) (omega arith), ← own (q / 64) (omega arith))
          (shared_at 0 xs ys (q / 64) (q % 64) q (omega arith) (omega arith) (omega arith) (omega arith))

-- ---- a step of a walk

pub walk_on : (at : ℕ) (xs ys : List ℕ) → 0 < length xs → length ys ≡ length xs
    → places 64 (64 * at) (bit_and (get_or xs 0 0) (get_or ys 0 0)) ++ shared (64 * (at + 1)) (take (length xs - 1) (drop 1 xs)) (take (length ys - 1) (drop 1 ys))
    ≡ shared (64 * at) xs ys
unfolding shared
walk_on at [] ys h n = absurd (omega arith)
walk_on at (x ∷ xs) [] h n = absurd (omega arith)
walk_on at (x ∷ xs) (y ∷ ys) h n =
    let k : 64 * (at + 1) ≡ 64 * at + 64 = omega arith in
    rw (k, take_all (length (x ∷ xs) - 1) xs (omega arith), take_all (length (y ∷ ys) - 1) ys (omega arith))

pub walk_end : (at : ℕ) (xs ys : List ℕ) → length xs ≡ 0 → shared at xs ys ≡ []
unfolding shared
walk_end at [] ys h = refl
walk_end at (x ∷ xs) ys h = absurd (omega arith)

-- ---- the places of one word

pub word_marks : (s mask : List ℕ) (w p j : ℕ) → j < w → (q : ℕ)
    → count q (places 64 (64 * j) (bit_and (get_or s (p * w + j) 0) (get_or mask j 0))) ≡ one (eqb (q / 64) j && mark s w p q && mark mask w 0 q)
word_marks s mask w p j h q = go (ℕ_discrete (q / 64) j) (dec_lt q (64 * j))
  where
    x : ℕ
    x = bit_and (get_or s (p * w + j) 0) (get_or mask j 0)

    go : Dec (q / 64 ≡ j) → Dec (q < 64 * j) → count q (places 64 (64 * j) x) ≡ one (eqb (q / 64) j && mark s w p q && mark mask w 0 q)
    go (no d) (yes l) = rw (ne_eqb (q / 64) j d) (count_low 64 (64 * j) x q l)
    go (no d) (no l) = rw (ne_eqb (q / 64) j d) (count_high 64 (64 * j) x q (omega arith))
    go (yes e) _ =
        let i : q ≡ 64 * j + q % 64 = omega arith in
        let z : 0 * w + q / 64 ≡ j = omega arith in
        ap (λ (y : ℕ). count y (places 64 (64 * j) x)) i ∙ count_place 64 (64 * j) x (q % 64) (omega arith)
        ∙ rw (eq-eqb (q / 64) j e, inside s w p q (omega arith), inside mask w 0 q (omega arith), z, e) (ap one (bit_and_lem (get_or s (p * w + j) 0) (get_or mask j 0) (q % 64)))
