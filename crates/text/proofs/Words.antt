-- Words: their bytes joined, what equal bytes say of two words, and small letters for capitals in all bytes at once.
use mathlib.Core.Path.{◌≡◌, refl, ap, sym, subst, ◌∙◌}
use mathlib.Core.Bool.{Bool, true, false, ◌&&◌}
use mathlib.Core.List.{List, ◌∷◌}
use Prim.Native.Nat.{ℕ, zero, suc, ◌+◌, ◌-◌, ◌*◌, ◌/◌, ◌%◌, ◌^◌, ◌≤◌, ◌<◌}
use native.Mathlib.Nat.{pow-suc}
use Rattle.std.proofs.Math.Nat.{div-div-eq-div-mul}
use native.Mathlib.Decide.{ℕ_discrete}
use native.Mathlib.Omega.{arith}
use lib.Bits.{bit_and, and_block, and_le_l, and_le_r}
use Rattle.std.specs.Int.{w64, byte_at, bytes_low_first, from_le_bytes}
use Rattle.std.proofs.lemmas.Nat.{le_bytes_8}
use lib.Dec.{leb, eqb}
use lib.ListN.{length, get_or, drop}
use borrow.Author.Tests.{leb-true, eqb-true}
use Rattle.text.specs.Bytes.{same, lowercase_byte, lowercase}
use Rattle.text.specs.Words.{bytes_in}
use Rattle.text.proofs.Bytes.{and_left, and_right, same_eq}

-- ---- the library's bytes of a word

byte_is : (i n : ℕ) → byte_at i n ≡ n / 256 ^ i % 256
byte_is zero n = let e : n / 256 ^ 0 ≡ n = omega arith in rw e
byte_is (suc i) n = refl

low_first : (k i n : ℕ) → bytes_low_first i k n ≡ bytes_in k (n / 256 ^ i)
low_first zero i n = refl
low_first (suc k) i n =
    let rest : n / 256 ^ i / 256 ≡ n / 256 ^ suc i = div-div-eq-div-mul n (256 ^ i) 256 ∙ ap (λ (p : ℕ). n / p) (sym (pow-suc 256 i)) in
    rw (byte_is i n, rest, low_first k (suc i) n)

pub word_bytes : (n : ℕ) (bs : List ℕ) → length bs ≡ 8 → ((i : ℕ) → get_or bs i 0 < 256) → n ≡ from_le_bytes w64 bs → bytes_in 8 n ≡ bs
word_bytes n bs h g e = let one : n / 256 ^ 0 ≡ n = omega arith in sym (low_first 8 0 n ∙ ap (bytes_in 8) one) ∙ le_bytes_8 bs n h g e

-- ---- words with the same bytes are equal

-- ---- small letters for capitals, in one byte

-- the highest bit of each byte from A to Z: h, a and z are HIGH_BITS, FROM_A and UP_TO_Z for as many bytes as w has
abbrev marked : ℕ → ℕ → ℕ → ℕ → ℕ
marked w h a z = bit_and (bit_and (w - bit_and w h + a) (z - (w - bit_and w h))) (h - bit_and w h)

abbrev byte_test : ℕ → Bool
byte_test x =
    leb (x - bit_and x 128) 127
    && (eqb (marked x 128 63 218 % 4) 0 && (eqb (x + marked x 128 63 218 / 4) (lowercase_byte x) && leb (lowercase_byte x) 255))

-- case is one bit
abbrev case_test : ℕ → Bool
case_test x = eqb (bit_and x 223) (bit_and (lowercase_byte x) 223)

abbrev pub each : (ℕ → Bool) → ℕ → Bool
each p zero = true
each p (suc n) = p n && each p n

pub each_at : (p : ℕ → Bool) (n x : ℕ) → each p n ≡ true → x < n → p x ≡ true
each_at p zero x e h = absurd (omega arith)
each_at p (suc n) x e h = go (ℕ_discrete x n) (each_at p n x (and_right (p n) (each p n) e))
  where
    go : Dec (x ≡ n) → (x < n → p x ≡ true) → p x ≡ true
    go (yes q) f = ap p q ∙ and_left (p n) (each p n) e
    go (no q) f = f (omega arith)

all_bytes : each byte_test 256 ≡ true
unfolding lowercase_byte
all_bytes = refl

all_cases : each case_test 256 ≡ true
unfolding lowercase_byte
all_cases = refl

pub record ByteFolds (x : ℕ) : Type 0 where
  pub low : x - bit_and x 128 ≤ 127
  pub quarter : marked x 128 63 218 % 4 ≡ 0
  pub is : x + marked x 128 63 218 / 4 ≡ lowercase_byte x
  pub small : lowercase_byte x ≤ 255

byte_folds : (x : ℕ) → x < 256 → ByteFolds x
byte_folds x h =
    let t = each_at byte_test 256 x all_bytes h in
    let t1 = and_right (leb (x - bit_and x 128) 127) _ t in
    let t2 = and_right (eqb (marked x 128 63 218 % 4) 0) _ t1 in
    record {
      low = leb-true (x - bit_and x 128) 127 (and_left (leb (x - bit_and x 128) 127) _ t);
      quarter = eqb-true (marked x 128 63 218 % 4) 0 (and_left (eqb (marked x 128 63 218 % 4) 0) _ t1);
      is = eqb-true (x + marked x 128 63 218 / 4) (lowercase_byte x) (and_left (eqb (x + marked x 128 63 218 / 4) (lowercase_byte x)) _ t2);
      small = leb-true (lowercase_byte x) 255 (and_right (eqb (x + marked x 128 63 218 / 4) (lowercase_byte x)) (leb (lowercase_byte x) 255) t2);
    }

-- ---- small letters for capitals, in as many bytes as there are

-- k bytes of value c
abbrev bytes_of : ℕ → ℕ → ℕ
bytes_of zero c = 0
bytes_of (suc k) c = bytes_of k c * 256 + c

bytes_le : (k c d : ℕ) → c ≤ d → bytes_of k c ≤ bytes_of k d
bytes_le zero c d h = omega arith
bytes_le (suc k) c d h = omega (arith, bytes_le k c d h)

abbrev marked_in : ℕ → ℕ → ℕ
marked_in k w = marked w (bytes_of k 128) (bytes_of k 63) (bytes_of k 218)

pub record Folds (k w : ℕ) : Type 0 where
  pub low : w - bit_and w (bytes_of k 128) ≤ bytes_of k 127
  pub quarter : marked_in k w % 4 ≡ 0
  pub fits : w + marked_in k w / 4 < 256 ^ k
  pub bytes : bytes_in k (w + marked_in k w / 4) ≡ lowercase (bytes_in k w)

-- a byte more, the lowest
module _ (k w x : ℕ) (h : x < 256) (f : Folds k w) where
  b : ByteFolds x
  b = byte_folds x h

  high_step : bit_and (w * 256 + x) (bytes_of k 128 * 256 + 128) ≡ bit_and w (bytes_of k 128) * 256 + bit_and x 128
  high_step = and_block 8 w (bytes_of k 128) x 128 h (omega arith)

  abbrev low_w : ℕ
  low_w = w - bit_and w (bytes_of k 128)

  abbrev low_x : ℕ
  low_x = x - bit_and x 128

  low_step : w * 256 + x - (bit_and w (bytes_of k 128) * 256 + bit_and x 128) ≡ low_w * 256 + low_x
  low_step = omega (arith, and_le_l w (bytes_of k 128), and_le_l x 128)

  from_step : low_w * 256 + low_x + (bytes_of k 63 * 256 + 63) ≡ (low_w + bytes_of k 63) * 256 + (low_x + 63)
  from_step = omega arith

  upto_step : bytes_of k 218 * 256 + 218 - (low_w * 256 + low_x) ≡ (bytes_of k 218 - low_w) * 256 + (218 - low_x)
  upto_step = omega (arith, b.low, f.low, bytes_le k 127 218 (omega arith))

  clear_step : bytes_of k 128 * 256 + 128 - (bit_and w (bytes_of k 128) * 256 + bit_and x 128) ≡ (bytes_of k 128 - bit_and w (bytes_of k 128)) * 256 + (128 - bit_and x 128)
  clear_step = omega (arith, and_le_r w (bytes_of k 128), and_le_r x 128)

  range_step : bit_and ((low_w + bytes_of k 63) * 256 + (low_x + 63)) ((bytes_of k 218 - low_w) * 256 + (218 - low_x))
      ≡ bit_and (low_w + bytes_of k 63) (bytes_of k 218 - low_w) * 256 + bit_and (low_x + 63) (218 - low_x)
  range_step = and_block 8 (low_w + bytes_of k 63) (bytes_of k 218 - low_w) (low_x + 63) (218 - low_x) (omega (arith, b.low)) (omega arith)

  marked_step : marked_in (suc k) (w * 256 + x) ≡ marked_in k w * 256 + marked x 128 63 218
  marked_step =
      rw (high_step, low_step, from_step, upto_step, clear_step, range_step)
      (and_block 8 (bit_and (low_w + bytes_of k 63) (bytes_of k 218 - low_w)) (bytes_of k 128 - bit_and w (bytes_of k 128)) (bit_and (low_x + 63) (218 - low_x)) (128 - bit_and x 128)
      (omega (arith, and_le_l (low_x + 63) (218 - low_x), b.low)) (omega arith))

  folds_step : Folds (suc k) (w * 256 + x)
  folds_step =
      let m = marked_step in
      let q = f.quarter in
      let r = b.quarter in
      let sum : w * 256 + x + marked_in (suc k) (w * 256 + x) / 4 ≡ (w + marked_in k w / 4) * 256 + lowercase_byte x = omega (arith, m, q, r, b.is) in
      let first : ((w + marked_in k w / 4) * 256 + lowercase_byte x) % 256 ≡ lowercase_byte x = omega (arith, b.small) in
      let rest : ((w + marked_in k w / 4) * 256 + lowercase_byte x) / 256 ≡ w + marked_in k w / 4 = omega (arith, b.small) in
      let this : (w * 256 + x) % 256 ≡ x = omega arith in
      let others : (w * 256 + x) / 256 ≡ w = omega arith in
      record {
        low = rw (high_step, low_step) (omega (arith, f.low, b.low));
        quarter = omega (arith, m, q, r);
        fits = omega (arith, sum, f.fits, b.small, pow-suc 256 k);
        bytes = rw (sum, first, rest, this, others) (ap (λ (l : List ℕ). lowercase_byte x ∷ l) f.bytes);
      }

pub folds : (k w : ℕ) → w < 256 ^ k → Folds k w
folds zero w h =
    let none : w ≡ 0 = omega arith in
    rw none (record { low = omega arith; quarter = refl; fits = omega arith; bytes = refl })
folds (suc k) w h =
    let split : w ≡ w / 256 * 256 + w % 256 = omega arith in
    subst (Folds (suc k)) (sym split) (folds_step k (w / 256) (w % 256) (omega arith) (folds k (w / 256) (omega (arith, pow-suc 256 k))))

-- ---- words whose bytes are the same but for case have the same bits but for that of the case

case_kept : (z : ℕ) → z < 256 → bit_and z 223 ≡ bit_and (lowercase_byte z) 223
case_kept z h = eqb-true (bit_and z 223) (bit_and (lowercase_byte z) 223) (each_at case_test 256 z all_cases h)

caseless_byte : (x y : ℕ) → x < 256 → y < 256 → lowercase_byte x ≡ lowercase_byte y → bit_and x 223 ≡ bit_and y 223
caseless_byte x y h g e =
    case_kept x h ∙ ap (λ (z : ℕ). bit_and z 223) e ∙ sym (case_kept y g)

caseless : (k x y : ℕ) → x < 256 ^ k → y < 256 ^ k → lowercase (bytes_in k x) ≡ lowercase (bytes_in k y) → bit_and x (bytes_of k 223) ≡ bit_and y (bytes_of k 223)
caseless zero x y h g e = let p : x ≡ 0 = omega arith in let q : y ≡ 0 = omega arith in rw (p, q)
caseless (suc k) x y h g e =
    let first : lowercase_byte (x % 256) ≡ lowercase_byte (y % 256) = ap (λ (l : List ℕ). get_or l 0 0) e in
    let rest = caseless k (x / 256) (y / 256) (omega (arith, pow-suc 256 k)) (omega (arith, pow-suc 256 k)) (ap (drop 1) e) in
    split x ∙ omega (arith, rest, caseless_byte (x % 256) (y % 256) (omega arith) (omega arith) first) ∙ sym (split y)
  where
    split : (z : ℕ) → bit_and z (bytes_of (suc k) 223) ≡ bit_and (z / 256) (bytes_of k 223) * 256 + bit_and (z % 256) 223
    split z =
        let parts : z ≡ z / 256 * 256 + z % 256 = omega arith in
        ap (λ (w : ℕ). bit_and w (bytes_of k 223 * 256 + 223)) parts ∙ and_block 8 (z / 256) (bytes_of k 223) (z % 256) 223 (omega arith) (omega arith)

pub words_differ : (k x y : ℕ) → x < 256 ^ k → y < 256 ^ k → (bit_and x (bytes_of k 223) ≡ bit_and y (bytes_of k 223) → ⊥)
    → false ≡ same (lowercase (bytes_in k x)) (lowercase (bytes_in k y))
words_differ k x y h g f = go (same (lowercase (bytes_in k x)) (lowercase (bytes_in k y))) refl
  where
    go : (b : Bool) → same (lowercase (bytes_in k x)) (lowercase (bytes_in k y)) ≡ b → false ≡ b
    go true e = absurd (f (caseless k x y h g (same_eq (lowercase (bytes_in k x)) (lowercase (bytes_in k y)) e)))
    go false e = refl
