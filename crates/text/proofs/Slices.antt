-- A part of a list, `slice i t s`, at its first element, and a part of a part.
use mathlib.Core.Path.{◌≡◌, ap, sym, ◌∙◌}
use mathlib.Core.List.{List, [], ◌∷◌}
use Prim.Native.Nat.{ℕ, zero, suc, ◌+◌, ◌-◌, ◌≤◌, ◌<◌}
use native.Mathlib.Numerals.{add-one}
use native.Mathlib.Nat.{suc-add}
use native.Mathlib.Omega.{arith}
use Rattle.std.proofs.lemmas.List.{drop-take}
use lib.ListN.{length, get_or, drop, take}
use lib.Seq.{slice, slice-cons, slice_empty, drop-drop, get_or-drop, get_or-take, take-length, take-take, take-nil}

module _ (s : List ℕ) (i t : ℕ) where
  pub slice_at : i < t → t ≤ length s → slice i t s ≡ get_or s i 0 ∷ slice (i + 1) t s
  slice_at h k = rw (add-one, slice-cons i t s 0)

  pub slice_none : t ≡ i → slice i t s ≡ []
  slice_none e = rw (e, slice_empty i s)

  pub get_d_slice : (k : ℕ) → i + k < t → get_or (slice i t s) k 0 ≡ get_or s (i + k) 0
  get_d_slice k h = get_or-drop i (take t s) k 0 ∙ get_or-take t s (i + k) 0 h

  pub drop_slice : (k : ℕ) → drop k (slice i t s) ≡ slice (i + k) t s
  drop_slice k = drop-drop k i (take t s)

-- the first k elements of a part
pub take_slice : (i k t : ℕ) (s : List ℕ) → i + k ≤ t → take k (slice i t s) ≡ slice i (i + k) s
take_slice zero k t s h = let q : 0 + k ≡ k = omega arith in rw q (take-take k t s (omega arith))
take_slice (suc i) k zero s h = absurd (omega arith)
take_slice (suc i) k (suc t) [] h = rw (suc-add i k) (take-nil k)
take_slice (suc i) k (suc t) (x ∷ s) h = rw (suc-add i k) (take_slice i k t s (omega arith))

-- the part that the code lends, `s[i..t]`
pub lent : (s : List ℕ) (i t : ℕ) → i ≤ t → take (t - i) (drop i s) ≡ slice i t s
lent s i t h = let q : i + (t - i) ≡ t = omega arith in sym (drop-take i (t - i) s) ∙ ap (λ (n : ℕ). drop i (take n s)) q

-- what holds of every element holds of those of a part
take_below : (b t k : ℕ) (s : List ℕ) → 0 < b → ((i : ℕ) → get_or s i 0 < b) → get_or (take t s) k 0 < b
take_below b zero k s h g = h
take_below b (suc t) k [] h g = h
take_below b (suc t) zero (x ∷ s) h g = g 0
take_below b (suc t) (suc k) (x ∷ s) h g = take_below b t k s h (λ i. g (suc i))

pub slice_below : (b i t : ℕ) (s : List ℕ) → 0 < b → ((k : ℕ) → get_or s k 0 < b) → (k : ℕ) → get_or (slice i t s) k 0 < b
slice_below b i t s h g k = rw (get_or-drop i (take t s) k 0) (take_below b t (i + k) s h g)

-- the whole text as a part
pub whole : (s : List ℕ) → slice 0 (length s) s ≡ s
whole s = take-length s
