-- The laws of `same_name`: an equivalence; the same length; the same hash; equal bytes but for case. Nothing but this file opens `same_name` or
-- `lowercase_byte`: another comparison would change their definitions and the first laws here.
use mathlib.Core.Path.{◌≡◌, refl, ap, sym, ◌∙◌}
use mathlib.Core.Bool.{Bool, true, false, ◌&&◌, and_assoc, and-true}
use mathlib.Core.List.{List, [], ◌∷◌, ◌++◌}
use Prim.Native.Nat.{ℕ, ◌+◌, ◌≤◌, ◌<◌}
use native.Mathlib.Omega.{arith}
use lib.Dec.{eqb}
use lib.ListN.{length, get_or}
use lib.Seq.{slice, ext_get_or, length-slice}
use Rattle.text.specs.Bytes.{same, lowercase_byte, lowercase}
use Rattle.text.proofs.Slices.{slice_at, slice_none}
use Rattle.text.proofs.Fields.{slice_join}
use Rattle.text.proofs.Bytes.{same_eq, same_itself}
use Rattle.text.proofs.Lowercase.{lowercase_at, lowercase_length, case_same, same_case}
use Rattle.paths.specs.Names.{same_name, NamesButCase}
use Rattle.paths.specs.Buckets.{hash_bytes, hash_of}

same_is : (x y : List ℕ) → same_name x y ≡ same (lowercase x) (lowercase y)
unfolding same_name
same_is x y = refl

-- ---- an equivalence

module _ (x y : List ℕ) where
  to_equal : same_name x y ≡ true → lowercase x ≡ lowercase y
  to_equal e = same_eq (lowercase x) (lowercase y) (sym (same_is x y) ∙ e)

  from_equal : lowercase x ≡ lowercase y → same_name x y ≡ true
  from_equal e = same_is x y ∙ rw e (same_itself (lowercase y))

pub same_self : (w : List ℕ) → same_name w w ≡ true
same_self w = from_equal w w refl

pub same_sym : (x y : List ℕ) → same_name x y ≡ true → same_name y x ≡ true
same_sym x y e = from_equal y x (sym (to_equal x y e))

pub same_trans : (x y z : List ℕ) → same_name x y ≡ true → same_name y z ≡ true → same_name x z ≡ true
same_trans x y z e f = from_equal x z (to_equal x y e ∙ to_equal y z f)

-- ---- the same length, the same hash

module _ (x y : List ℕ) where
  pub same_size : same_name x y ≡ true → length x ≡ length y
  same_size e = sym (lowercase_length x) ∙ ap length (to_equal x y e) ∙ lowercase_length y

  pub other_size : (length x ≡ length y → ⊥) → same_name x y ≡ false
  other_size f = go (same_name x y) refl
    where
      go : (b : Bool) → same_name x y ≡ b → b ≡ false
      go true e = absurd (f (same_size e))
      go false e = refl

  pub same_hash : same_name x y ≡ true → hash_of x ≡ hash_of y
  unfolding hash_of
  same_hash e = ap hash_bytes (to_equal x y e)

-- ---- equal bytes, but for case

module _ (x y : List ℕ) where
  pub same_names : same_name x y ≡ true → NamesButCase x y
  same_names e = record { size = same_size x y e; bytes = λ i h. same_case (get_or x i 0) (get_or y i 0) (at i) }
    where
      at : (i : ℕ) → lowercase_byte (get_or x i 0) ≡ lowercase_byte (get_or y i 0)
      at i = sym (lowercase_at x i) ∙ ap (λ (l : List ℕ). get_or l i 0) (to_equal x y e) ∙ lowercase_at y i

  pub names_same : NamesButCase x y → same_name x y ≡ true
  names_same p = from_equal x y (ext_get_or 0 (lowercase x) (lowercase y) (lowercase_length x ∙ p.size ∙ sym (lowercase_length y)) at)
    where
      at : (i : ℕ) → i < length (lowercase x) → get_or (lowercase x) i 0 ≡ get_or (lowercase y) i 0
      at i h = lowercase_at x i ∙ case_same (get_or x i 0) (get_or y i 0) (p.bytes i (omega (arith, lowercase_length x))) ∙ sym (lowercase_at y i)

-- ---- the loop of a comparison: at byte i, what is left of two parts of one size is the same exactly if the whole is

same_front : (x y : ℕ) (v w : List ℕ) → same_name (x ∷ v) (y ∷ w) ≡ (eqb (lowercase_byte x) (lowercase_byte y) && same_name v w)
same_front x y v w = same_is (x ∷ v) (y ∷ w) ∙ ap (λ (b : Bool). eqb (lowercase_byte x) (lowercase_byte y) && b) (sym (same_is v w))

same_append : (v w x y : List ℕ) → length v ≡ length w → same_name (v ++ x) (w ++ y) ≡ (same_name v w && same_name x y)
same_append [] [] x y h = ap (λ (b : Bool). b && same_name x y) (sym (same_self []))
same_append [] (c ∷ w) x y h = absurd (omega arith)
same_append (c ∷ v) [] x y h = absurd (omega arith)
same_append (c ∷ v) (d ∷ w) x y h =
    same_front c d (v ++ x) (w ++ y)
    ∙ ap (λ (b : Bool). eqb (lowercase_byte c) (lowercase_byte d) && b) (same_append v w x y (omega arith))
    ∙ sym (and_assoc (eqb (lowercase_byte c) (lowercase_byte d)) (same_name v w) (same_name x y))
    ∙ ap (λ (b : Bool). b && same_name x y) (sym (same_front c d v w))

-- one byte, and eight, as the code compares them
pub one_same : (s : List ℕ) (i j : ℕ) → i < length s → j < length s
    → eqb (lowercase_byte (get_or s i 0)) (lowercase_byte (get_or s j 0)) ≡ same_name (slice i (i + 1) s) (slice j (j + 1) s)
one_same s i j h g =
    rw (slice_at s i (i + 1) (omega arith) (omega arith), slice_at s j (j + 1) (omega arith) (omega arith), slice_none s (i + 1) (i + 1) refl, slice_none s (j + 1) (j + 1) refl)
    (sym (same_front (get_or s i 0) (get_or s j 0) [] [] ∙ ap (λ (b : Bool). eqb (lowercase_byte (get_or s i 0)) (lowercase_byte (get_or s j 0)) && b) (same_self []) ∙ and-true _))

pub lowered_same : (x y : List ℕ) → same (lowercase x) (lowercase y) ≡ same_name x y
lowered_same x y = sym (same_is x y)

pub record Comparing (s : List ℕ) (a b size i : ℕ) : Type 0 where
  pub first : a + size ≤ length s
  pub second : b + size ≤ length s
  pub upto : i ≤ size
  pub rest : same_name (slice (a + i) (a + size) s) (slice (b + i) (b + size) s) ≡ same_name (slice a (a + size) s) (slice b (b + size) s)

pub compare_start : (s : List ℕ) (a b size : ℕ) → a + size ≤ length s → b + size ≤ length s → Comparing s a b size 0
compare_start s a b size h k =
    let p : a + 0 ≡ a = omega arith in
    let q : b + 0 ≡ b = omega arith in
    record { first = h; second = k; upto = omega arith; rest = rw (p, q) }

-- the next k bytes of both are compared
module _ {s : List ℕ} {a b size i : ℕ} (h : Comparing s a b size i) where
  module _ (k : ℕ) (l : i + k ≤ size) {same : Bool} (e : same ≡ same_name (slice (a + i) (a + i + k) s) (slice (b + i) (b + i + k) s)) where
    at_part : (same && same_name (slice (a + (i + k)) (a + size) s) (slice (b + (i + k)) (b + size) s)) ≡ same_name (slice a (a + size) s) (slice b (b + size) s)
    at_part =
        let p : a + (i + k) ≡ a + i + k = omega arith in
        let q : b + (i + k) ≡ b + i + k = omega arith in
        let long : length (slice (a + i) (a + i + k) s) ≡ length (slice (b + i) (b + i + k) s) =
        omega (arith, length-slice (a + i) (a + i + k) s (omega (arith, h.first)), length-slice (b + i) (b + i + k) s (omega (arith, h.second))) in
        rw (e, p, q)
        (sym (same_append (slice (a + i) (a + i + k) s) (slice (b + i) (b + i + k) s) (slice (a + i + k) (a + size) s) (slice (b + i + k) (b + size) s) long)
        ∙ rw (slice_join (a + i) (a + i + k) (a + size) s (omega arith) (omega arith), slice_join (b + i) (b + i + k) (b + size) s (omega arith) (omega arith)) h.rest)

    pub compare_turn : same ≡ true → Comparing s a b size (i + k)
    compare_turn t = record { first = h.first; second = h.second; upto = l; rest = rw t at at_part }

    pub compare_miss : same ≡ false → false ≡ same_name (slice a (a + size) s) (slice b (b + size) s)
    compare_miss f = rw f at at_part

  pub compare_done : size ≤ i → true ≡ same_name (slice a (a + size) s) (slice b (b + size) s)
  compare_done l =
      let m = h.upto in
      let x = slice_none s (a + i) (a + size) (omega arith) in
      let y = slice_none s (b + i) (b + size) (omega arith) in
      let e : same_name (slice (a + i) (a + size) s) (slice (b + i) (b + size) s) ≡ true = rw (x, y) (same_self []) in
      sym e ∙ h.rest
