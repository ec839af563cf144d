-- The hash of a name, by words: the low five bits of eight bytes at once.
use mathlib.Core.Path.{◌≡◌, refl, ap, sym, ◌∙◌}
use mathlib.Core.Bool.{Bool, true, false, cond, ◌&&◌}
use mathlib.Core.List.{List, [], ◌∷◌}
use Prim.Native.Nat.{ℕ, zero, suc, ◌+◌, ◌-◌, ◌*◌, ◌/◌, ◌%◌, ◌^◌, ◌≤◌, ◌<◌, min}
use native.Mathlib.Nat.{pow-suc, zero-mod}
use native.Mathlib.Decide.{dec_lt}
use native.Mathlib.Omega.{arith}
use lib.Arith.{mod-mul}
use lib.Bits.{bit_and, and_block, and_mask}
use lib.Dec.{leb, eqb}
use lib.ListN.{length, get_or, take, drop}
use lib.Seq.{slice, length-slice, take_all}
use borrow.Author.Tests.{le-leb, lt-leb, eqb-true}
use Rattle.text.specs.Bytes.{lowercase_byte, lowercase}
use Rattle.text.specs.Words.{bytes_in}
use Rattle.text.proofs.Bytes.{and_left, and_right}
use Rattle.text.proofs.Words.{each_at}
use Rattle.text.proofs.Slices.{slice_at, slice_none, take_slice, drop_slice}
use Rattle.text.proofs.Lowercase.{low_bits, lowercase_length}
use Rattle.paths.specs.Buckets.{hashes, bits_of, add_word, hash_of}

-- ---- a hash is below 2 ^ 32

pub add_small : (h w : ℕ) → add_word h w < hashes
add_small h w = omega arith

pub hash_small : (w : List ℕ) → hash_of w < hashes
unfolding hash_of
hash_small w = go (leb (length (lowercase w)) 8)
  where
    go : (b : Bool) → cond b (add_word 0 (bits_of (lowercase w))) (add_word (add_word 0 (bits_of (take 8 (lowercase w)))) (bits_of (take 8 (drop 8 (lowercase w))))) < hashes
    go true = omega arith
    go false = omega arith

-- ---- the bits do not go by case

bits_lowered : (w : List ℕ) → bits_of (lowercase w) ≡ bits_of w
bits_lowered [] = refl
bits_lowered (x ∷ w) = rw (low_bits x, bits_lowered w)

lowered_take : (k : ℕ) (w : List ℕ) → take k (lowercase w) ≡ lowercase (take k w)
lowered_take zero w = refl
lowered_take (suc k) [] = refl
lowered_take (suc k) (x ∷ w) = ap (λ (l : List ℕ). lowercase_byte x ∷ l) (lowered_take k w)

lowered_drop : (k : ℕ) (w : List ℕ) → drop k (lowercase w) ≡ lowercase (drop k w)
lowered_drop zero w = refl
lowered_drop (suc k) [] = refl
lowered_drop (suc k) (x ∷ w) = lowered_drop k w

-- ---- the hash of a part of the text, by its size

module _ (s : List ℕ) (from to : ℕ) (h : to ≤ length s) where
  abbrev name : List ℕ
  name = slice from to s

  long : length (lowercase name) ≡ to - from
  long = lowercase_length name ∙ length-slice from to s h

  pub short_hash : to - from ≤ 8 → add_word 0 (bits_of name) ≡ hash_of name
  unfolding hash_of
  short_hash g = sym (rw (le-leb (length (lowercase name)) 8 (omega (arith, long)), bits_lowered name))

  pub long_hash : {x y : ℕ} → 8 < to - from → x ≡ bits_of (take 8 name) → y ≡ bits_of (take 8 (drop 8 name)) → add_word (add_word 0 x) y ≡ hash_of name
  unfolding hash_of
  long_hash {x} {y} g e f =
      let first : bits_of (take 8 (lowercase name)) ≡ x = ap bits_of (lowered_take 8 name) ∙ bits_lowered (take 8 name) ∙ sym e in
      let second : bits_of (take 8 (drop 8 (lowercase name))) ≡ y =
      ap (λ (l : List ℕ). bits_of (take 8 l)) (lowered_drop 8 name) ∙ ap bits_of (lowered_take 8 (drop 8 name)) ∙ bits_lowered (take 8 (drop 8 name)) ∙ sym f in
      sym (rw (lt-leb (length (lowercase name)) 8 (omega (arith, long)), first, second))

-- ---- the bits of a word

some : (k : ℕ) → 0 < 256 ^ k
some zero = omega arith
some (suc k) = omega (arith, pow-suc 256 k, some k)

abbrev fives : ℕ → ℕ
fives zero = 0
fives (suc k) = fives k * 256 + 31

masked : (k w : ℕ) → w < 256 ^ k → bit_and w (fives k) ≡ bits_of (bytes_in k w)
masked zero w h = let none : w ≡ 0 = omega arith in rw none
masked (suc k) w h =
    let split : w ≡ w / 256 * 256 + w % 256 = omega arith in
    let rest = masked k (w / 256) (omega (arith, pow-suc 256 k)) in
    let low : bit_and (w % 256) 31 ≡ w % 256 % 32 = and_mask (w % 256) 5 in
    ap (λ (x : ℕ). bit_and x (fives k * 256 + 31)) split ∙ and_block 8 (w / 256) (fives k) (w % 256) 31 (omega arith) (omega arith)
    ∙ omega (arith, rest, low)

-- the first k of them
bits_take : (k : ℕ) (w : List ℕ) → bits_of (take k w) ≡ bits_of w % 256 ^ k
bits_take zero w = omega arith
bits_take (suc k) [] = sym (zero-mod (256 ^ suc k))
bits_take (suc k) (x ∷ w) =
    let rest : (x % 32 + 256 * bits_of w) / 256 ≡ bits_of w = omega arith in
    let low : (x % 32 + 256 * bits_of w) % 256 ≡ x % 32 = omega arith in
    sym
    (ap (λ (m : ℕ). (x % 32 + 256 * bits_of w) % m) (pow-suc 256 k) ∙ mod-mul (x % 32 + 256 * bits_of w) (some k) (omega arith)
    ∙ omega (arith, rest, low, ap (λ (n : ℕ). n % 256 ^ k) rest, bits_take k w))

-- the mask of the first k of eight bytes
abbrev mask_test : ℕ → Bool
mask_test k = eqb (18446744073709551615 / 2 ^ (64 - 8 * k)) (2 ^ (8 * k) - 1) && eqb (2 ^ (8 * k)) (256 ^ k)

module _ (k : ℕ) (h : k ≤ 8) where
  test : mask_test k ≡ true
  test = each_at mask_test 9 k refl (omega arith)

  first_bytes : (n : ℕ) → bit_and n (18446744073709551615 / 2 ^ (64 - 8 * k)) ≡ n % 256 ^ k
  first_bytes n =
      let mask = eqb-true (18446744073709551615 / 2 ^ (64 - 8 * k)) (2 ^ (8 * k) - 1) (and_left (eqb (18446744073709551615 / 2 ^ (64 - 8 * k)) (2 ^ (8 * k) - 1)) (eqb (2 ^ (8 * k)) (256 ^ k)) test) in
      let power = eqb-true (2 ^ (8 * k)) (256 ^ k) (and_right (eqb (18446744073709551615 / 2 ^ (64 - 8 * k)) (2 ^ (8 * k) - 1)) (eqb (2 ^ (8 * k)) (256 ^ k)) test) in
      ap (bit_and n) mask ∙ and_mask n (8 * k) ∙ ap (λ (m : ℕ). n % m) power

  pub word_bits : (s : List ℕ) (i w : ℕ) → i + 8 ≤ length s → w < 256 ^ 8 → bytes_in 8 w ≡ slice i (i + 8) s
      → bit_and (bit_and w (fives 8)) (18446744073709551615 / 2 ^ (64 - 8 * k)) ≡ bits_of (slice i (i + k) s)
  word_bits s i w g l e =
      first_bytes (bit_and w (fives 8))
      ∙ ap (λ (n : ℕ). n % 256 ^ k) (masked 8 w l ∙ ap bits_of e)
      ∙ sym (bits_take k (slice i (i + 8) s))
      ∙ ap bits_of (take_slice i k (i + 8) s (omega arith))

-- ---- the bits of a part of at most eight bytes, byte by byte from the last

bits_below : (k : ℕ) (w : List ℕ) → length w ≤ k → bits_of w < 256 ^ k
bits_below k [] h = some k
bits_below zero (x ∷ w) h = absurd (omega arith)
bits_below (suc k) (x ∷ w) h = omega (arith, bits_below k w (omega arith), pow-suc 256 k)

pub record Gathering (s : List ℕ) (from size i bits : ℕ) : Type 0 where
  pub upto : i ≤ size
  pub inside : from + size ≤ length s
  pub is : bits ≡ bits_of (slice (from + i) (from + size) s)

pub gather_start : (s : List ℕ) (from size : ℕ) → from + size ≤ length s → Gathering s from size size 0
gather_start s from size h = record { upto = omega arith; inside = h; is = sym (rw (slice_none s (from + size) (from + size) refl)) }

module _ {s : List ℕ} {from size i bits : ℕ} (g : Gathering s from size i bits) where
  pub gather_small : size ≤ 8 → 0 < i → bits < 256 ^ 7
  gather_small h l =
      let e = g.is in
      let n = length-slice (from + i) (from + size) s g.inside in
      omega (arith, e, bits_below 7 (slice (from + i) (from + size) s) (omega (arith, n, g.upto)))

  pub gather_turn : 0 < i → {b : ℕ} → b ≡ lowercase_byte (get_or s (from + (i - 1)) 0) % 32 → Gathering s from size (i - 1) (b + 256 * bits)
  gather_turn l {b} e =
      let next : from + (i - 1) + 1 ≡ from + i = omega arith in
      let u = g.upto in
      record {
        upto = omega arith;
        inside = g.inside;
        is =
            rw (slice_at s (from + (i - 1)) (from + size) (omega arith) g.inside, next)
            (omega (arith, g.is, e ∙ low_bits (get_or s (from + (i - 1)) 0)));
      }

  pub gather_done : i ≤ 0 → bits ≡ bits_of (slice from (from + size) s)
  gather_done l = let none : from + i ≡ from = omega arith in g.is ∙ rw none

-- ---- the bytes of a long name that are hashed

take_part : (s : List ℕ) (i t k : ℕ) → i ≤ t → t ≤ length s → take k (slice i t s) ≡ slice i (i + min (t - i) k) s
take_part s i t k h g = go (dec_lt (t - i) k)
  where
    go : Dec (t - i < k) → take k (slice i t s) ≡ slice i (i + min (t - i) k) s
    go (yes l) =
        let end : i + min (t - i) k ≡ t = omega arith in
        rw end (take_all k (slice i t s) (omega (arith, length-slice i t s g)))
    go (no l) =
        let end : i + min (t - i) k ≡ i + k = omega arith in
        rw end (take_slice i k t s (omega arith))

pub second_part : (s : List ℕ) (from to size : ℕ) → from + 8 < to → to ≤ length s → size ≡ min (to - from - 8) 8
    → slice (from + 8) (from + 8 + size) s ≡ take 8 (drop 8 (slice from to s))
second_part s from to size h g e =
    let left : to - from - 8 ≡ to - (from + 8) = omega arith in
    rw (e, left) (sym (ap (take 8) (drop_slice s from to 8) ∙ take_part s (from + 8) to 8 (omega arith) g))
