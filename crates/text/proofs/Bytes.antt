-- Laws of tests over bytes: counts, and runs of bytes that pass a test, at the positions that a loop has.
use mathlib.Core.Path.{◌≡◌, refl, ap, sym, ◌∙◌}
use mathlib.Core.Bool.{Bool, true, false, not, ◌&&◌}
use mathlib.Core.List.{List, [], ◌∷◌, ◌++◌}
use Prim.Native.Nat.{ℕ, zero, suc, ◌+◌, ◌≤◌, ◌<◌}
use native.Mathlib.Nat.{le_of_suc-le-suc, not-suc-le-zero}
use native.Mathlib.Omega.{arith}
use lib.Dec.{eqb, eqb-suc-suc, eqb-zero-suc}
use lib.ListN.{length, get_or}
use borrow.Author.Tests.{eq-eqb, ne_eqb, eqb-true}
pub use Rattle.cells.proofs.Tests.{and_left, and_right}
use Rattle.cells.proofs.Tests.{one_le}
use Rattle.std.specs.Prelude.{nat_eq}
use Rattle.std.specs.Cmp.Lexicographic.{pointwise}
use Rattle.text.specs.Bytes.{all, one, count_by, same, is_allowed}
use Rattle.text.specs.Scans.{run_end, one_more, run, is_bad}
use Rattle.text.proofs.Slices.{slice_at, slice_none}

pub true_false : true ≡ false → ⊥
true_false e = let z : ◌≡◌ {A = ℕ} 0 1 = cc in omega arith

-- ---- counts

pub count_append : (p : ℕ → Bool) (xs ys : List ℕ) → count_by p (xs ++ ys) ≡ count_by p xs + count_by p ys
count_append p [] ys = omega arith
count_append p (x ∷ xs) ys = omega (arith, count_append p xs ys)

pub count_most : (p : ℕ → Bool) (xs : List ℕ) → count_by p xs ≤ length xs
count_most p [] = omega arith
count_most p (x ∷ xs) = omega (arith, one_le (p x), count_most p xs)

-- a byte that passes is counted
some_go : (b : Bool) (n : ℕ) → 1 ≤ n → 1 ≤ one b + n
some_go b n h = omega arith

pub count_some : (p : ℕ → Bool) (s : List ℕ) (i : ℕ) → i < length s → p (get_or s i 0) ≡ true → 1 ≤ count_by p s
count_some p [] i h e = absurd (not-suc-le-zero h)
count_some p (x ∷ xs) zero h e = rw e (omega arith)
count_some p (x ∷ xs) (suc i) h e = some_go (p x) (count_by p xs) (count_some p xs i (le_of_suc-le-suc h) e)

-- no byte fails: all pass, and the other way round
none_bad : (x : ℕ) (xs : List ℕ) (b : Bool) → all is_allowed xs ≡ eqb (count_by is_bad xs) 0 → (b && all is_allowed xs) ≡ eqb (one (not b) + count_by is_bad xs) 0
none_bad x xs true e = let q : 0 + count_by is_bad xs ≡ count_by is_bad xs = omega arith in rw q e
none_bad x xs false e = sym (ne_eqb (1 + count_by is_bad xs) 0 (λ q. omega arith))

pub all_allowed : (s : List ℕ) → all is_allowed s ≡ eqb (count_by is_bad s) 0
all_allowed [] = refl
all_allowed (x ∷ xs) = none_bad x xs (is_allowed x) (all_allowed xs)

pub and-false : (a b : Bool) → b ≡ false → (a && b) ≡ false
and-false true b e = e
and-false false b e = refl

-- what passes at every byte passes at each
pub all_at : (p : ℕ → Bool) (s : List ℕ) (i : ℕ) → all p s ≡ true → i < length s → p (get_or s i 0) ≡ true
all_at p [] i e h = absurd (not-suc-le-zero h)
all_at p (x ∷ xs) zero e h = and_left (p x) (all p xs) e
all_at p (x ∷ xs) (suc i) e h = all_at p xs i (and_right (p x) (all p xs) e) (le_of_suc-le-suc h)

-- ---- the same bytes

-- what `==` of two slices gives
pub same_is : (xs ys : List ℕ) → pointwise nat_eq xs ys ≡ same xs ys
same_is [] [] = refl
same_is [] (y ∷ ys) = refl
same_is (x ∷ xs) [] = refl
same_is (x ∷ xs) (y ∷ ys) = rw (same_is xs ys)

pub same_lengths : (xs ys : List ℕ) → (length xs ≡ length ys → ⊥) → same xs ys ≡ false
same_lengths [] [] e = absurd (e refl)
same_lengths [] (y ∷ ys) e = refl
same_lengths (x ∷ xs) [] e = refl
same_lengths (x ∷ xs) (y ∷ ys) e = and-false (eqb x y) (same xs ys) (same_lengths xs ys (λ q. e (ap suc q)))

same_go : (x y : ℕ) (xs ys : List ℕ) → (same xs ys ≡ true → xs ≡ ys) → (b : Bool) → eqb x y ≡ b → (b && same xs ys) ≡ true → ◌≡◌ {A = List ℕ} (x ∷ xs) (y ∷ ys)
same_go x y xs ys rest true f g = let p : x ≡ y = eqb-true x y f in let q = rest g in cc
same_go x y xs ys rest false f g = absurd (true_false (sym g))

pub same_eq : (xs ys : List ℕ) → same xs ys ≡ true → xs ≡ ys
same_eq [] [] e = refl
same_eq [] (y ∷ ys) e = absurd (true_false (sym e))
same_eq (x ∷ xs) [] e = absurd (true_false (sym e))
same_eq (x ∷ xs) (y ∷ ys) e = same_go x y xs ys (same_eq xs ys) (eqb x y) refl e

pub same_itself : (xs : List ℕ) → same xs xs ≡ true
same_itself [] = refl
same_itself (x ∷ xs) = rw (eq-eqb x x refl) (same_itself xs)

-- ---- runs

module _ (p : ℕ → Bool) (s : List ℕ) (i t : ℕ) where
  pub run_more : i < t → t ≤ length s → p (get_or s i 0) ≡ true → run_end p s (i + 1) t ≡ run_end p s i t
  unfolding run_end
  run_more h k e = rw (slice_at s i t h k, e) (omega arith)

  pub run_stop : i < t → t ≤ length s → p (get_or s i 0) ≡ false → run_end p s i t ≡ i
  unfolding run_end
  run_stop h k e = rw (slice_at s i t h k, e) (omega arith)

  pub run_end_lem : t ≡ i → run_end p s i t ≡ i
  unfolding run_end
  run_end_lem e = rw (slice_none s i t e) (omega arith)

-- a run is no longer than its list
run_le_go : (b : Bool) (r n : ℕ) → r ≤ n → one_more b r ≤ suc n
run_le_go true r n h = omega arith
run_le_go false r n h = omega arith

pub run_le : (p : ℕ → Bool) (l : List ℕ) → run p l ≤ length l
run_le p [] = omega arith
run_le p (x ∷ xs) = run_le_go (p x) (run p xs) (length xs) (run_le p xs)

-- it does not pass a byte that fails
pub run_until : (p : ℕ → Bool) (l : List ℕ) (k : ℕ) → k < length l → p (get_or l k 0) ≡ false → run p l ≤ k
run_until p [] k h e = absurd (not-suc-le-zero h)
run_until p (x ∷ xs) zero h e = rw e (omega arith)
run_until p (x ∷ xs) (suc k) h e = go (p x) (run_until p xs k (le_of_suc-le-suc h) e)
  where
    go : (b : Bool) → run p xs ≤ k → one_more b (run p xs) ≤ suc k
    go true h = omega arith
    go false h = omega arith

-- the byte that ends it fails
fails_go : (p : ℕ → Bool) (x : ℕ) (xs : List ℕ) → (run p xs < length xs → p (get_or xs (run p xs) 0) ≡ false)
    → (b : Bool) → p x ≡ b → one_more b (run p xs) < suc (length xs) → p (get_or (x ∷ xs) (one_more b (run p xs)) 0) ≡ false
fails_go p x xs rest true e g = rest (le_of_suc-le-suc g)
fails_go p x xs rest false e g = e

pub run_fails : (p : ℕ → Bool) (l : List ℕ) → run p l < length l → p (get_or l (run p l) 0) ≡ false
run_fails p [] h = absurd (not-suc-le-zero h)
run_fails p (x ∷ xs) h = fails_go p x xs (run_fails p xs) (p x) refl h

-- all bytes pass exactly if the run is the whole list
all_go : (p : ℕ → Bool) (xs : List ℕ) (b : Bool) → all p xs ≡ eqb (run p xs) (length xs) → (b && all p xs) ≡ eqb (one_more b (run p xs)) (suc (length xs))
all_go p xs true e = e ∙ sym (eqb-suc-suc (run p xs) (length xs))
all_go p xs false e = sym (eqb-zero-suc (length xs))

pub all_run : (p : ℕ → Bool) (l : List ℕ) → all p l ≡ eqb (run p l) (length l)
all_run p [] = refl
all_run p (x ∷ xs) = all_go p xs (p x) (all_run p xs)
