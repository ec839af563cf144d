-- How each Group gets its buckets: counts, then sums of them.
use mathlib.Core.Path.{◌≡◌, refl, ap, sym, ◌∙◌}
use mathlib.Core.Bool.{Bool, true, false, cond}
use mathlib.Core.List.{List}
use mathlib.Core.Logic.{⊎_elim}
use Prim.Native.Nat.{ℕ, zero, suc, ◌+◌, ◌≤◌, ◌<◌}
use native.Mathlib.Nat.{eq-or-lt_of_le}
use native.Mathlib.Numerals.{add-one}
use native.Mathlib.Omega.{arith}
use lib.Dec.{eqb}
use lib.IntN.{ℤ}
use lib.ListN.{length, get_or, set, length-set}
use lib.Seq.{get_or-set_same, get_or-set_other}
use borrow.Author.Tests.{eqb-true, eqb-false}
use Rattle.cells.specs.Limits.{label_limit}
use Rattle.cells.specs.Table.{owner, is_definition}
use Rattle.text.proofs.Bytes.{true_false}
use Rattle.paths.specs.Buckets.{counted_at, sum_to, MembersCounted, Allotted}

-- ---- sums

pub sum_rises : (c : List ℕ) (g h : ℕ) → g ≤ h → sum_to c g ≤ sum_to c h
sum_rises c g zero l = let e : g ≡ 0 = omega arith in rw e (omega arith)
sum_rises c g (suc h) l = ⊎_elim (λ e. rw e (omega arith)) (λ k. omega (arith, sum_rises c g h (omega arith))) (eq-or-lt_of_le l)

pub sum_part : (c : List ℕ) (g : ℕ) → get_or c g 0 ≤ sum_to c g
sum_part c zero = omega arith
sum_part c (suc g) = omega arith

-- zeros but for the first place
first_sum : (c : List ℕ) (v : ℕ) → ((i : ℕ) → get_or c i 0 ≡ 0) → 0 < length c → (g : ℕ) → sum_to (set c 0 v) g ≡ v
first_sum c v h l zero = get_or-set_same c 0 v 0 l
first_sum c v h l (suc g) = omega (arith, first_sum c v h l g, get_or-set_other c 0 (suc g) v 0 (λ e. omega arith), h (suc g))

-- one count is 2 larger
module _ (c : List ℕ) (i : ℕ) (inside : i < length c) where
  abbrev more : List ℕ
  more = set c i (get_or c i 0 + 2)

  grown : (j : ℕ) → (get_or c j 0 ≤ get_or more j 0) × (get_or more j 0 ≤ get_or c j 0 + 2)
  grown j = go (eqb j i) refl
    where
      go : (b : Bool) → eqb j i ≡ b → (get_or c j 0 ≤ get_or more j 0) × (get_or more j 0 ≤ get_or c j 0 + 2)
      go true e = rw (eqb-true j i e, get_or-set_same c i (get_or c i 0 + 2) 0 inside) (omega arith, omega arith)
      go false e = rw (get_or-set_other c i j (get_or c i 0 + 2) 0 (eqb-false j i e)) (omega arith, omega arith)

  sum_before : (g : ℕ) → g < i → sum_to more g ≡ sum_to c g
  sum_before zero l = get_or-set_other c i 0 (get_or c i 0 + 2) 0 (λ e. omega arith)
  sum_before (suc g) l = rw (sum_before g (omega arith), get_or-set_other c i (suc g) (get_or c i 0 + 2) 0 (λ e. omega arith))

  sum_more : (g : ℕ) → sum_to more g ≤ sum_to c g + 2
  sum_more zero = (grown 0).1
  sum_more (suc g) = go (eqb (suc g) i) refl (sum_more g)
    where
      go : (b : Bool) → eqb (suc g) i ≡ b → sum_to more g ≤ sum_to c g + 2 → sum_to more (suc g) ≤ sum_to c (suc g) + 2
      go true e rest =
          let q : suc g ≡ i = eqb-true (suc g) i e in
          omega (arith, sum_before g (omega arith), (grown (suc g)).1)
      go false e rest = omega (arith, get_or-set_other c i (suc g) (get_or c i 0 + 2) 0 (eqb-false (suc g) i e))

-- ---- the counts

module _ (t : List ℤ) (n : ℕ) where
  pub count_start : (c : List ℕ) → n + 1 < length c → ((i : ℕ) → get_or c i 0 ≡ 0) → MembersCounted t n 1 (set c 0 (n + 1))
  count_start c h z =
      let first = get_or-set_same c 0 (n + 1) 0 (omega arith) in
      record {
        long = omega (arith, length-set c 0 (n + 1));
        base = first;
        total = omega (arith, first_sum c (n + 1) z (omega arith) (n + 1));
        some = λ l a b d. absurd (omega arith);
      }

  module _ {k : ℕ} {c : List ℕ} (h : MembersCounted t n k c) (most : k ≤ n) (falls : owner t k < k) where
    pub count_room : owner t k + 1 < length c
    count_room = omega (arith, h.long)

    pub count_small : n ≤ label_limit → get_or c (owner t k + 1) 0 ≤ 4096
    count_small few =
        omega (arith, h.total, sum_part c (owner t k + 1), sum_rises c (owner t k + 1) (n + 1) (omega arith))

    count_own : is_definition t k ≡ true → MembersCounted t n (k + 1) (set c (owner t k + 1) (get_or c (owner t k + 1) 0 + 2))
    count_own d = record {
      long = omega (arith, h.long, length-set c (owner t k + 1) (get_or c (owner t k + 1) 0 + 2));
      base = get_or-set_other c (owner t k + 1) 0 (get_or c (owner t k + 1) 0 + 2) 0 (λ e. omega arith) ∙ h.base;
      total = omega (arith, h.total, sum_more c (owner t k + 1) count_room (n + 1));
      some = λ l a b e. ⊎_elim (λ q. at l q) (λ q. omega (arith, h.some l a q e, grown c (owner t k + 1) count_room (owner t l + 1))) (eq-or-lt_of_le {n = l} {m = k} (omega arith));
    }
      where
        at : (l : ℕ) → l ≡ k → 1 ≤ get_or (set c (owner t k + 1) (get_or c (owner t k + 1) 0 + 2)) (owner t l + 1) 0
        at l q = rw (q, get_or-set_same c (owner t k + 1) (get_or c (owner t k + 1) 0 + 2) 0 count_room) (omega arith)

    count_other : is_definition t k ≡ false → MembersCounted t n (k + 1) c
    count_other d = record {
      long = h.long;
      base = h.base;
      total = omega (arith, h.total);
      some = λ l a b e. ⊎_elim (λ (q : l ≡ k). absurd (true_false (sym e ∙ ap (is_definition t) q ∙ d))) (λ q. h.some l a q e) (eq-or-lt_of_le {n = l} {m = k} (omega arith));
    }

    pub count_turn : {c' : List ℕ} → c' ≡ counted_at t k c → MembersCounted t n (k + 1) c'
    count_turn e = rw e (go (is_definition t k) refl)
      where
        go : (b : Bool) → is_definition t k ≡ b → MembersCounted t n (k + 1) (cond b (set c (owner t k + 1) (get_or c (owner t k + 1) 0 + 2)) c)
        go true d = count_own d
        go false d = count_other d

-- the loop that counts, from the counts c₀ on
pub record Counting (t : List ℤ) (n : ℕ) (c₀ c : List ℕ) (k : ℕ) : Type 0 where
  pub low : 1 ≤ k
  pub high : k ≤ n + 1
  pub size : length c ≡ length c₀
  pub counts : MembersCounted t n k c

pub counting_start : {t : List ℤ} {n : ℕ} {c : List ℕ} → MembersCounted t n 1 c → Counting t n c c 1
counting_start h = record { low = omega arith; high = omega arith; size = refl; counts = h }

module _ {t : List ℤ} {n : ℕ} {c₀ c : List ℕ} {k : ℕ} (g : Counting t n c₀ c k) where
  pub counting_turn : k ≤ n → owner t k < k → {c' : List ℕ} → length c' ≡ length c → c' ≡ counted_at t k c → Counting t n c₀ c' (k + 1)
  counting_turn m falls s e =
      record { low = omega arith; high = omega arith; size = s ∙ g.size; counts = count_turn t n g.counts m falls e }

  pub counting_done : n < k → MembersCounted t n (n + 1) c
  counting_done l = let q : k ≡ n + 1 = omega (arith, g.high) in rw (← q) g.counts

-- ---- the sums of the counts c, up to place g

pub record Summed (c : List ℕ) (g : ℕ) (starts : List ℕ) : Type 0 where
  pub long : length starts ≡ length c
  pub done : (i : ℕ) → i ≤ g → get_or starts i 0 ≡ sum_to c i
  pub left : (i : ℕ) → g < i → get_or starts i 0 ≡ get_or c i 0

module _ (c : List ℕ) where
  pub sum_start : Summed c 0 c
  sum_start = record { long = refl; done = λ i h. (let e : i ≡ 0 = omega arith in rw e); left = λ i h. refl }

  module _ {g : ℕ} {starts : List ℕ} (h : Summed c g starts) where
    pub sum_next : get_or starts (g + 1) 0 + get_or starts g 0 ≡ sum_to c (g + 1)
    sum_next = rw (add-one g) (omega (arith, h.done g (omega arith), h.left (suc g) (omega arith)))

    pub sum_turn : g + 1 < length c → {starts' : List ℕ} → starts' ≡ set starts (g + 1) (get_or starts (g + 1) 0 + get_or starts g 0) → Summed c (g + 1) starts'
    sum_turn l e = rw e (record {
      long = length-set starts (g + 1) _ ∙ h.long;
      done = λ i k. ⊎_elim (λ q. at i q) (λ q. get_or-set_other starts (g + 1) i _ 0 (λ z. omega arith) ∙ h.done i (omega arith)) (eq-or-lt_of_le k);
      left = λ i k. get_or-set_other starts (g + 1) i _ 0 (λ z. omega arith) ∙ h.left i (omega arith);
    })
      where
        at : (i : ℕ) → i ≡ g + 1 → get_or (set starts (g + 1) (get_or starts (g + 1) 0 + get_or starts g 0)) i 0 ≡ sum_to c i
        at i q = rw q (get_or-set_same starts (g + 1) _ 0 (omega (arith, h.long)) ∙ sum_next)

-- ---- the buckets

pub allotted : {t : List ℤ} {n : ℕ} {c starts : List ℕ} → ((l : ℕ) → 1 ≤ l → l ≤ n → owner t l < l) → MembersCounted t n (n + 1) c
    → length starts ≡ length c → ((g : ℕ) → g ≤ n + 1 → get_or starts g 0 ≡ sum_to c g) → Allotted t n starts
allotted {t} {n} {c} {starts} falls h size sums = record {
  long = omega (arith, h.long);
  base = sums 0 (omega arith) ∙ h.base;
  rising = λ g k l m. rw (sums g (omega arith), sums k m) (sum_rises c g k l);
  few = rw (sums (n + 1) (omega arith)) (omega (arith, h.total));
  some = λ l a b d. rw (sums (owner t l) (omega (arith, falls l a b)), sums (owner t l + 1) (omega (arith, falls l a b))) (rises l (h.some l a (omega arith) d));
}
  where
    rises : (l : ℕ) → 1 ≤ get_or c (owner t l + 1) 0 → sum_to c (owner t l) < sum_to c (owner t l + 1)
    rises l k = rw (add-one (owner t l)) (omega (arith, rw (add-one (owner t l)) at k))
