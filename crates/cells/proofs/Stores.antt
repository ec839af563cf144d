-- What reads see after stores, and of zeros.
use mathlib.Core.Path.{◌≡◌, refl, ap, ◌∙◌}
use mathlib.Core.List.{List, [], ◌∷◌, ◌++◌}
use mathlib.Core.Logic.{◌≢◌}
use Prim.Native.Nat.{ℕ, suc, zero, ◌+◌, ◌<◌, ◌≤◌}
use native.Mathlib.Omega.{arith}
use native.Mathlib.Nat.{not-suc-le-zero, le_of_suc-le-suc, add-zero, add-suc, suc-add}
use lib.IntN.{ℤ, pos}
use lib.ListN.{length, length-set, set, take, drop, length-append, length-drop}
use lib.Seq.{get_or-set_same, get_or-set_other, sets, sets-eq, take_at, drop-append-add, drop-drop}
use Rattle.cells.specs.Cells.{int_at, zeros}

pub int_at_put : (t : List ℤ) (i : ℕ) (z : ℤ) → i < length t → int_at (set t i z) i ≡ z
int_at_put t i z h = get_or-set_same t i z (pos 0) h

pub int_at_other : (t : List ℤ) (i j : ℕ) (z : ℤ) → j ≢ i → int_at (set t i z) j ≡ int_at t j
int_at_other t i j z h = get_or-set_other t i j z (pos 0) h

pub int_at_zeros : (n i : ℕ) → int_at (zeros n) i ≡ pos 0
int_at_zeros zero i = refl
int_at_zeros (suc n) zero = refl
int_at_zeros (suc n) (suc i) = int_at_zeros n i

-- ---- a run of stores

pub sets_before : (vs t : List ℤ) (i j : ℕ) → j < i → int_at (sets t i vs) j ≡ int_at t j
sets_before [] t i j h = refl
sets_before (a ∷ vs) t i j h =
    sets_before vs (set t i a) (suc i) j (omega arith) ∙ int_at_other t i j a (omega arith)

pub sets_past : (vs t : List ℤ) (i j : ℕ) → i + length vs ≤ j → int_at (sets t i vs) j ≡ int_at t j
sets_past [] t i j h = refl
sets_past (a ∷ vs) t i j h =
    sets_past vs (set t i a) (suc i) j (omega arith) ∙ int_at_other t i j a (omega arith)

pub sets_in : (vs t : List ℤ) (i k : ℕ) → k < length vs → i + length vs ≤ length t → int_at (sets t i vs) (i + k) ≡ int_at vs k
sets_in [] t i k h g = absurd (not-suc-le-zero h)
sets_in (a ∷ vs) t i zero h g =
    rw add-zero (sets_before vs (set t i a) (suc i) i (omega arith) ∙ int_at_put t i a (omega arith))
sets_in (a ∷ vs) t i (suc k) h g =
    rw (add-suc, ← suc-add) (sets_in vs (set t i a) (suc i) k (le_of_suc-le-suc h) (rw length-set (omega arith)))

-- cells stored behind a, which stands where the first i cells of t stood
pub sets_next : (a v t : List ℤ) (i : ℕ) → length a ≡ i → i + length v ≤ length t → sets (a ++ drop i t) i v ≡ (a ++ v) ++ drop (i + length v) t
sets_next a v t i e h =
    let w = a ++ drop i t in
    let long : length w ≡ length t = omega (arith, length-append a (drop i t), length-drop i t) in
    let front : take i w ≡ a = take_at a (drop i t) i e in
    let m : i + length v ≡ length a + length v = omega arith in
    let back : drop (i + length v) w ≡ drop (i + length v) t = ap (λ (j : ℕ). drop j w) m ∙ drop-append-add a (drop i t) (length v) ∙ drop-drop (length v) i t in
    sets-eq v w i (omega (arith, long)) ∙ rw (front, back) refl
