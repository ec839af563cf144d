-- Laws of marks in a square: what stores of words do to them.
use mathlib.Core.Path.{◌≡◌, refl, sym, ap, ◌∙◌}
use mathlib.Core.Logic.{◌⊎◌, inl, inr}
use mathlib.Core.List.{List, [], ◌∷◌, ◌++◌}
use mathlib.Core.Bool.{true, false, ◌&&◌, ◌||◌}
use Prim.Native.Nat.{ℕ, suc, ◌+◌, ◌-◌, ◌*◌, ◌/◌, ◌%◌, ◌^◌, ◌≤◌, ◌<◌}
use native.Mathlib.Omega.{arith}
use native.Mathlib.Nat.{mul-le-mul_right, suc-mul, pow-le-pow_right, mod-eq_of_lt}
use native.Mathlib.Decide.{ℕ_discrete, dec_lt}
use lib.Bits.{bit_or, bit_xor}
use lib.Count.{count_trailing_zeros}
use lib.Dec.{ltb}
use lib.ListN.{length, get_or, set}
use lib.Seq.{get_or-set_same, get_or-set_other}
use borrow.Author.Count.{below_more}
use borrow.Author.Tests.{lt-ltb, le-ltb}
use Rattle.order.specs.LabelLists.{one, ◌∈◌}
use Rattle.order.proofs.Tests.{both_ways, or_cases, or_left, or_right}
use Rattle.order.proofs.Lists.{in_here, in_there, in_append}
use Rattle.marks.specs.Marks.{bit, mark, InSquare, Added, Dropped, Rising, First}
use Rattle.marks.proofs.Bits.{bit_or_lem, bit_none, put_own, put_other, drop_own, drop_other, lowest_is, lowest_below}

-- the code's `1 << k`
pub shift_one : (k : ℕ) → k < 64 → 1 * 2 ^ k % 18446744073709551616 ≡ 2 ^ k
shift_one k h =
    let m : 2 ^ k ≤ 2 ^ 63 = pow-le-pow_right {n = 2} (omega arith) {i = k} {j = 63} (omega arith) in
    let e : 1 * 2 ^ k ≡ 2 ^ k = omega arith in
    rw e (mod-eq_of_lt (omega arith))

-- an index has one row
same_row : (w a i b j : ℕ) → i < w → j < w → a * w + i ≡ b * w + j → a ≡ b
same_row w a i b j hi hj e = go (dec_lt a b) (dec_lt b a)
  where
    go : Dec (a < b) → Dec (b < a) → a ≡ b
    go (yes h) _ = let m : suc a * w ≤ b * w = mul-le-mul_right w h in absurd (omega (arith, suc-mul a w))
    go (no h) (yes g) = let m : suc b * w ≤ a * w = mul-le-mul_right w g in absurd (omega (arith, suc-mul b w))
    go (no h) (no g) = omega arith

-- ---- a mark by its word and bit

pub inside : (s : List ℕ) (w p q : ℕ) → q < 64 * w → mark s w p q ≡ bit (get_or s (p * w + q / 64) 0) (q % 64)
unfolding mark
inside s w p q h = rw (lt-ltb q (64 * w) h)

pub outside : (s : List ℕ) (w p q : ℕ) → 64 * w ≤ q → mark s w p q ≡ false
unfolding mark
outside s w p q h = rw (le-ltb q (64 * w) h)

-- a mark that is set is within the row
pub mark_in : (s : List ℕ) (w p q : ℕ) → mark s w p q ≡ true → q < 64 * w
mark_in s w p q e = go (dec_lt q (64 * w))
  where
    go : Dec (q < 64 * w) → q < 64 * w
    go (yes h) = h
    go (no h) = both_ways (mark s w p q) e (outside s w p q (omega arith))

-- ---- a store that changes one bit of a word

module _ (s : List ℕ) (w p q : ℕ) (h : InSquare s w p q) where
  mark_own : (v : ℕ) → mark (set s (p * w + q / 64) v) w p q ≡ bit v (q % 64)
  mark_own v = inside (set s (p * w + q / 64) v) w p q h.0 ∙ ap (λ (x : ℕ). bit x (q % 64)) (get_or-set_same s (p * w + q / 64) v 0 (omega arith))

  mark_other : (v : ℕ) → ((j : ℕ) → (j ≡ q % 64 → ⊥) → bit v j ≡ bit (get_or s (p * w + q / 64) 0) j)
      → (a b : ℕ) → (a ≡ p → b ≡ q → ⊥) → mark (set s (p * w + q / 64) v) w a b ≡ mark s w a b
  mark_other v keep a b d = at (dec_lt b (64 * w))
    where
      go : b < 64 * w → Dec (a * w + b / 64 ≡ p * w + q / 64) → bit (get_or (set s (p * w + q / 64) v) (a * w + b / 64) 0) (b % 64) ≡ bit (get_or s (a * w + b / 64) 0) (b % 64)
      go hb (no e) = ap (λ (x : ℕ). bit x (b % 64)) (get_or-set_other s (p * w + q / 64) (a * w + b / 64) v 0 e)
      go hb (yes e) =
          let r : a ≡ p = same_row w a (b / 64) p (q / 64) (omega arith) (omega arith) e in
          let l : a * w ≡ p * w = ap (λ (x : ℕ). x * w) r in
          rw e (ap (λ (x : ℕ). bit x (b % 64)) (get_or-set_same s (p * w + q / 64) v 0 (omega arith)) ∙ keep (b % 64) (λ z. d r (omega arith)))

      at : Dec (b < 64 * w) → mark (set s (p * w + q / 64) v) w a b ≡ mark s w a b
      at (yes hb) = inside (set s (p * w + q / 64) v) w a b hb ∙ go hb (ℕ_discrete (a * w + b / 64) (p * w + q / 64)) ∙ sym (inside s w a b hb)
      at (no hb) = outside (set s (p * w + q / 64) v) w a b (omega arith) ∙ sym (outside s w a b (omega arith))

  pub put_added : Added (λ (b : ℕ). b ≡ q) s (set s (p * w + q / 64) (bit_or (get_or s (p * w + q / 64) 0) (2 ^ (q % 64)))) w p
  put_added = record {
    others = λ a b d. other a b (λ e z. d e);
    kept = λ b e. kept b e (ℕ_discrete b q);
    new = λ b hb e. rw e own;
    only = λ b e. only b e (ℕ_discrete b q);
  }
    where
      s' : List ℕ
      s' = set s (p * w + q / 64) (bit_or (get_or s (p * w + q / 64) 0) (2 ^ (q % 64)))

      own : mark s' w p q ≡ true
      own = mark_own (bit_or (get_or s (p * w + q / 64) 0) (2 ^ (q % 64))) ∙ put_own (get_or s (p * w + q / 64) 0) (q % 64)

      other : (a b : ℕ) → (a ≡ p → b ≡ q → ⊥) → mark s' w a b ≡ mark s w a b
      other = mark_other (bit_or (get_or s (p * w + q / 64) 0) (2 ^ (q % 64))) (put_other (get_or s (p * w + q / 64) 0) (q % 64))

      kept : (b : ℕ) → mark s w p b ≡ true → Dec (b ≡ q) → mark s' w p b ≡ true
      kept b e (yes z) = rw z own
      kept b e (no z) = other p b (λ _ y. z y) ∙ e

      only : (b : ℕ) → mark s' w p b ≡ true → Dec (b ≡ q) → (mark s w p b ≡ true) ⊎ (b ≡ q)
      only b e (yes z) = inr z
      only b e (no z) = inl (sym (other p b (λ _ y. z y)) ∙ e)

  pub drop_dropped : mark s w p q ≡ true → Dropped s (set s (p * w + q / 64) (bit_xor (get_or s (p * w + q / 64) 0) (2 ^ (q % 64)))) w p q
  drop_dropped e = record {
    gone = mark_own (bit_xor (get_or s (p * w + q / 64) 0) (2 ^ (q % 64))) ∙ drop_own (get_or s (p * w + q / 64) 0) (q % 64) (sym (inside s w p q h.0) ∙ e);
    others = mark_other (bit_xor (get_or s (p * w + q / 64) 0) (2 ^ (q % 64))) (drop_other (get_or s (p * w + q / 64) 0) (q % 64));
  }

-- ---- a row merged into another, word by word

-- the first j words are merged
pub record Merging (s₀ s : List ℕ) (w a b j : ℕ) : Type 0 where
  pub done : (i : ℕ) → i < j → get_or s (b * w + i) 0 ≡ bit_or (get_or s₀ (b * w + i) 0) (get_or s₀ (a * w + i) 0)
  pub rest : (x : ℕ) → ((i : ℕ) → i < j → x ≡ b * w + i → ⊥) → get_or s x 0 ≡ get_or s₀ x 0

pub merging_none : (s : List ℕ) (w a b : ℕ) → Merging s s w a b 0
merging_none s w a b = record { done = λ i h. absurd (omega arith); rest = λ x f. refl }

module _ (s₀ s : List ℕ) (w a b j : ℕ) (m : Merging s₀ s w a b j) where
  pub merging_turn : j < w → b * w + j < length s
      → Merging s₀ (set s (b * w + j) (bit_or (get_or s (b * w + j) 0) (get_or s (a * w + j) 0))) w a b (j + 1)
  merging_turn hj hl = record {
    done = below_more (λ (i : ℕ). get_or s' (b * w + i) 0 ≡ bit_or (get_or s₀ (b * w + i) 0) (get_or s₀ (a * w + i) 0)) j
        (λ i h. get_or-set_other s (b * w + j) (b * w + i) v 0 (λ z. omega arith) ∙ m.done i h)
        (get_or-set_same s (b * w + j) v 0 hl ∙ rw (m.rest (b * w + j) (λ i h z. omega arith), m.rest (a * w + j) apart));
    rest = λ x f. get_or-set_other s (b * w + j) x v 0 (f j (omega arith)) ∙ m.rest x (λ i h. f i (omega arith));
  }
    where
      v : ℕ
      v = bit_or (get_or s (b * w + j) 0) (get_or s (a * w + j) 0)

      s' : List ℕ
      s' = set s (b * w + j) v

      apart : (i : ℕ) → i < j → a * w + j ≡ b * w + i → ⊥
      apart i h z =
          let r : a * w ≡ b * w = ap (λ (x : ℕ). x * w) (same_row w a j b i hj (omega arith) z) in
          omega arith

  pub merging_end : w ≤ j → j ≤ w → Added (λ (q : ℕ). mark s₀ w a q ≡ true) s₀ s w b
  merging_end h g = record {
    others = λ c q d. other c q d (dec_lt q (64 * w));
    kept = λ q e. let hq = mark_in s₀ w b q e in at q hq ∙ or_left (mark s₀ w b q) (mark s₀ w a q) e;
    new = λ q hq e. at q hq ∙ or_right (mark s₀ w b q) (mark s₀ w a q) e;
    only = λ q e. or_cases (mark s₀ w b q) (mark s₀ w a q) (sym (at q (mark_in s w b q e)) ∙ e);
  }
    where
      at : (q : ℕ) → q < 64 * w → mark s w b q ≡ (mark s₀ w b q || mark s₀ w a q)
      at q hq =
          inside s w b q hq ∙ ap (λ (x : ℕ). bit x (q % 64)) (m.done (q / 64) (omega arith))
          ∙ bit_or_lem (get_or s₀ (b * w + q / 64) 0) (get_or s₀ (a * w + q / 64) 0) (q % 64)
          ∙ sym (rw (inside s₀ w b q hq, inside s₀ w a q hq))

      other : (c q : ℕ) → (c ≡ b → ⊥) → Dec (q < 64 * w) → mark s w c q ≡ mark s₀ w c q
      other c q d (yes hq) =
          inside s w c q hq ∙ ap (λ (x : ℕ). bit x (q % 64)) (m.rest (c * w + q / 64) (λ i k z. d (same_row w c (q / 64) b i (omega arith) (omega arith) z)))
          ∙ sym (inside s₀ w c q hq)
      other c q d (no hq) = outside s w c q (omega arith) ∙ sym (outside s₀ w c q (omega arith))

-- ---- marks listed word by word

pub rising_join : (a b : List ℕ) (k : ℕ) → Rising a → ((x : ℕ) → x ∈ a → x < k) → Rising b → ((y : ℕ) → y ∈ b → k ≤ y) → Rising (a ++ b)
rising_join [] b k ra low rb high = rb
rising_join (x ∷ a) b k ra low rb high = (λ y h. go y (in_append y a b h), rising_join a b k ra.1 (λ z i. low z (in_there z x a i)) rb high)
  where
    go : (y : ℕ) → (y ∈ a) ⊎ (y ∈ b) → x < y
    go y (inl h) = ra.0 y h
    go y (inr h) = omega (arith, low x (in_here x a), high y h)

mark_at : (s : List ℕ) (w p j i : ℕ) → j < w → i < 64 → mark s w p (64 * j + i) ≡ bit (get_or s (p * w + j) 0) i
mark_at s w p j i g h =
    let a : (64 * j + i) / 64 ≡ j = omega arith in
    let b : (64 * j + i) % 64 ≡ i = omega arith in
    inside s w p (64 * j + i) (omega arith) ∙ rw (a, b)

mark_at_first : (s : List ℕ) (w j i : ℕ) → j < w → i < 64 → mark s w 0 (64 * j + i) ≡ bit (get_or s j 0) i
mark_at_first s w j i g h =
    let e : 0 * w + j ≡ j = omega arith in
    mark_at s w 0 j i g h ∙ ap (λ (x : ℕ). bit (get_or s x 0) i) e

pub listing_end : (s mask : List ℕ) (w p q : ℕ) → one (ltb q (64 * w) && mark s w p q && mark mask w 0 q) ≡ one (mark s w p q && mark mask w 0 q)
listing_end s mask w p q = go (dec_lt q (64 * w))
  where
    go : Dec (q < 64 * w) → one (ltb q (64 * w) && mark s w p q && mark mask w 0 q) ≡ one (mark s w p q && mark mask w 0 q)
    go (yes h) = rw (lt-ltb q (64 * w) h)
    go (no h) = rw (le-ltb q (64 * w) (omega arith), outside s w p q (omega arith))

-- ---- the first mark

first_free : (s : List ℕ) (w j : ℕ) → ((i : ℕ) → i < j → get_or s i 0 ≡ 0) → j ≤ w → (q : ℕ) → q < 64 * j → mark s w 0 q ≡ false
first_free s w j none hj q h =
    let e : 0 * w + q / 64 ≡ q / 64 = omega arith in
    inside s w 0 q (omega arith) ∙ ap (λ (i : ℕ). bit (get_or s i 0) (q % 64)) e ∙ ap (λ (x : ℕ). bit x (q % 64)) (none (q / 64) (omega arith)) ∙ bit_none (q % 64)

pub first_found : (s : List ℕ) (w j : ℕ) → ((i : ℕ) → i < j → get_or s i 0 ≡ 0) → j < w → 0 < get_or s j 0 → get_or s j 0 < 2 ^ 64
    → First s w (64 * j + count_trailing_zeros 64 (get_or s j 0))
first_found s w j none hj p f = record {
  within = omega (arith, t.0);
  here = mark_at_first s w j (count_trailing_zeros 64 (get_or s j 0)) hj t.0 ∙ t.1;
  before = λ q h. go q h (dec_lt q (64 * j));
}
  where
    t : (count_trailing_zeros 64 (get_or s j 0) < 64) × (bit (get_or s j 0) (count_trailing_zeros 64 (get_or s j 0)) ≡ true)
    t = lowest_is 64 (get_or s j 0) p f

    go : (q : ℕ) → q < 64 * j + count_trailing_zeros 64 (get_or s j 0) → Dec (q < 64 * j) → mark s w 0 q ≡ false
    go q h (yes g) = first_free s w j none (omega arith) q g
    go q h (no g) =
        let i : q ≡ 64 * j + (q - 64 * j) = omega arith in
        ap (mark s w 0) i ∙ mark_at_first s w j (q - 64 * j) hj (omega (arith, t.0)) ∙ lowest_below 64 (get_or s j 0) (q - 64 * j) (omega arith)

-- ---- a row cleared

pub marks_clear : (ready : List ℕ) (w : ℕ) → ((i : ℕ) → i < w → get_or ready i 0 ≡ 0) → (p : ℕ) → mark ready w 0 p ≡ false
marks_clear ready w h p = go (dec_lt p (64 * w))
  where
    go : Dec (p < 64 * w) → mark ready w 0 p ≡ false
    go (no l) = outside ready w 0 p (omega arith)
    go (yes l) =
        let e : 0 * w + p / 64 ≡ p / 64 = omega arith in
        inside ready w 0 p l ∙ ap (λ (i : ℕ). bit (get_or ready i 0) (p % 64)) e ∙ ap (λ (x : ℕ). bit x (p % 64)) (h (p / 64) (omega arith)) ∙ bit_none (p % 64)

-- a square of zeros has no marks
pub marks_none : (s : List ℕ) → ((i : ℕ) → get_or s i 0 ≡ 0) → (w p q : ℕ) → mark s w p q ≡ false
marks_none s h w p q = go (dec_lt q (64 * w))
  where
    go : Dec (q < 64 * w) → mark s w p q ≡ false
    go (no l) = outside s w p q (omega arith)
    go (yes l) = inside s w p q l ∙ ap (λ (x : ℕ). bit x (q % 64)) (h (p * w + q / 64)) ∙ bit_none (q % 64)
