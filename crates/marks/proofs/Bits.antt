-- Laws of the bits of a number.
use mathlib.Core.Path.{◌≡◌, refl, sym, ap, ◌∙◌}
use mathlib.Core.Logic.{◌⊎◌, inl, inr}
use mathlib.Core.List.{[], ◌∷◌}
use mathlib.Core.Bool.{Bool, true, false, not, ◌&&◌, ◌||◌}
use Prim.Native.Nat.{ℕ, zero, suc, ◌+◌, ◌-◌, ◌*◌, ◌/◌, ◌%◌, ◌^◌, ◌≤◌, ◌<◌, min, max}
use native.Mathlib.Omega.{arith}
use native.Mathlib.Nat.{div-one, div-div-eq-div-mul, pow-suc, pow-succ'}
use native.Mathlib.Decide.{ℕ_discrete, dec_lt}
use lib.Dec.{eqb}
use lib.ListN.{length}
use lib.Bits as Bits
use lib.Bits.{bit_and, bit_or, bit_xor, and_step, or_step, xor_step, and_self}
use lib.Count.{count_trailing_zeros}
use borrow.Author.Tests.{eq-eqb, ne_eqb}
use Rattle.order.specs.LabelLists.{one, count, ◌∈◌}
use Rattle.order.proofs.Tests.{one_le}
use Rattle.order.proofs.Lists.{count_here, count_there}
use Rattle.marks.specs.Marks.{bit, places, Rising}

one_test : (t : Bool) → eqb (one t) 1 ≡ t
one_test true = refl
one_test false = refl

-- ---- an operation on bits, digit by digit

module _ (op f : ℕ → ℕ → ℕ) (g : Bool → Bool → Bool) (step : (a b : ℕ) → op a b ≡ op (a / 2) (b / 2) * 2 + f (a % 2) (b % 2))
    (low : (a b : ℕ) → f (a % 2) (b % 2) ≡ one (g (bit a 0) (bit b 0))) where
  half : (a b : ℕ) → op a b / 2 ≡ op (a / 2) (b / 2)
  half a b = omega (arith, step a b, low a b, one_le (g (bit a 0) (bit b 0)))

  bit_op : (a b j : ℕ) → bit (op a b) j ≡ g (bit a j) (bit b j)
  bit_op a b zero =
      let e : op a b % 2 ≡ one (g (bit a 0) (bit b 0)) = omega (arith, step a b, low a b, one_le (g (bit a 0) (bit b 0))) in
      ap (λ (x : ℕ). eqb x 1) e ∙ one_test (g (bit a 0) (bit b 0))
  bit_op a b (suc j) = rw (half a b) (bit_op (a / 2) (b / 2) j)

-- a digit is 0 or 1
digit : (a : ℕ) → (a % 2 ≡ 0) ⊎ (a % 2 ≡ 1)
digit a = go (ℕ_discrete (a % 2) 1)
  where
    go : Dec (a % 2 ≡ 1) → (a % 2 ≡ 0) ⊎ (a % 2 ≡ 1)
    go (yes e) = inr e
    go (no e) = inl (omega arith)

digits : (f : ℕ → ℕ → ℕ) (g : Bool → Bool → Bool) → f 0 0 ≡ one (g false false) → f 0 1 ≡ one (g false true) → f 1 0 ≡ one (g true false) → f 1 1 ≡ one (g true true)
    → (a b : ℕ) → f (a % 2) (b % 2) ≡ one (g (bit a 0) (bit b 0))
digits f g e₀ e₁ e₂ e₃ a b = go (digit a) (digit b)
  where
    go : (a % 2 ≡ 0) ⊎ (a % 2 ≡ 1) → (b % 2 ≡ 0) ⊎ (b % 2 ≡ 1) → f (a % 2) (b % 2) ≡ one (g (bit a 0) (bit b 0))
    go (inl p) (inl q) = rw (p, q) e₀
    go (inl p) (inr q) = rw (p, q) e₁
    go (inr p) (inl q) = rw (p, q) e₂
    go (inr p) (inr q) = rw (p, q) e₃

abbrev unlike : Bool → Bool → Bool
unlike true b = not b
unlike false b = b

pub bit_or_lem : (a b j : ℕ) → bit (bit_or a b) j ≡ (bit a j || bit b j)
bit_or_lem = bit_op bit_or max (λ a b. a || b) or_step (digits max (λ a b. a || b) refl refl refl refl)

pub bit_and_lem : (a b j : ℕ) → bit (bit_and a b) j ≡ (bit a j && bit b j)
bit_and_lem = bit_op bit_and min (λ a b. a && b) and_step (digits min (λ a b. a && b) refl refl refl refl)

bit_xor_lem : (a b j : ℕ) → bit (bit_xor a b) j ≡ unlike (bit a j) (bit b j)
bit_xor_lem = bit_op bit_xor Bits.differ unlike xor_step (digits Bits.differ unlike refl refl refl refl)

-- ---- a number with one bit

pub bit_none : (j : ℕ) → bit 0 j ≡ false
bit_none zero = refl
bit_none (suc j) = bit_none j

pub bit_own : (k : ℕ) → bit (2 ^ k) k ≡ true
bit_own zero = refl
bit_own (suc k) =
    let e : 2 ^ suc k / 2 ≡ 2 ^ k = omega (arith, pow-suc 2 k) in
    rw e (bit_own k)

pub bit_other : (k j : ℕ) → (j ≡ k → ⊥) → bit (2 ^ k) j ≡ false
bit_other zero zero h = absurd (h refl)
bit_other zero (suc j) h = bit_none j
bit_other (suc k) zero h =
    let e : 2 ^ suc k % 2 ≡ 0 = omega (arith, pow-suc 2 k) in
    rw e
bit_other (suc k) (suc j) h =
    let e : 2 ^ suc k / 2 ≡ 2 ^ k = omega (arith, pow-suc 2 k) in
    rw e (bit_other k j (λ q. h (ap suc q)))

or_off : (a : Bool) → (a || false) ≡ a
or_off true = refl
or_off false = refl

or_on : (a : Bool) → (a || true) ≡ true
or_on true = refl
or_on false = refl

pub put_own : (x k : ℕ) → bit (bit_or x (2 ^ k)) k ≡ true
put_own x k = bit_or_lem x (2 ^ k) k ∙ rw (bit_own k) (or_on (bit x k))

pub put_other : (x k j : ℕ) → (j ≡ k → ⊥) → bit (bit_or x (2 ^ k)) j ≡ bit x j
put_other x k j h = bit_or_lem x (2 ^ k) j ∙ rw (bit_other k j h) (or_off (bit x j))

pub drop_own : (x k : ℕ) → bit x k ≡ true → bit (bit_xor x (2 ^ k)) k ≡ false
drop_own x k e = bit_xor_lem x (2 ^ k) k ∙ rw (bit_own k, e)

unlike_off : (a : Bool) → unlike a false ≡ a
unlike_off true = refl
unlike_off false = refl

pub drop_other : (x k j : ℕ) → (j ≡ k → ⊥) → bit (bit_xor x (2 ^ k)) j ≡ bit x j
drop_other x k j h = bit_xor_lem x (2 ^ k) j ∙ rw (bit_other k j h) (unlike_off (bit x j))

-- the code's test of a bit
pub bit_shift : (x j : ℕ) → eqb (x / 2 ^ j % 2) 1 ≡ bit x j
bit_shift x zero = ap (λ (y : ℕ). eqb (y % 2) 1) (div-one x)
bit_shift x (suc j) =
    let e : x / 2 ^ suc j ≡ x / 2 / 2 ^ j = ap (λ (y : ℕ). x / y) (pow-succ' 2 j) ∙ sym (div-div-eq-div-mul x 2 (2 ^ j)) in
    ap (λ (y : ℕ). eqb (y % 2) 1) e ∙ bit_shift (x / 2) j

-- ---- the lowest bit of a number of k digits

-- it is taken away by `x & (x - 1)`
clear_odd : (x : ℕ) → x % 2 ≡ 1 → bit_and x (x - 1) ≡ x / 2 * 2
clear_odd x e =
    let h : (x - 1) / 2 ≡ x / 2 = omega arith in
    let z : (x - 1) % 2 ≡ 0 = omega arith in
    and_step x (x - 1) ∙ rw (h, e, z, and_self (x / 2)) (omega arith)

clear_even : (x : ℕ) → x % 2 ≡ 0 → 0 < x → bit_and x (x - 1) ≡ bit_and (x / 2) (x / 2 - 1) * 2
clear_even x e p =
    let h : (x - 1) / 2 ≡ x / 2 - 1 = omega arith in
    let z : (x - 1) % 2 ≡ 1 = omega arith in
    and_step x (x - 1) ∙ rw (h, e, z) (omega arith)

pub places_step : (k m x : ℕ) → 0 < x → x < 2 ^ k → places k m x ≡ (m + count_trailing_zeros k x) ∷ places k m (bit_and x (x - 1))
unfolding count_trailing_zeros places
places_step zero m x p h = absurd (omega arith)
places_step (suc k) m x p h = go (digit x) (λ q. places_step k (suc m) (x / 2) q (omega (arith, pow-suc 2 k)))
  where
    go : (x % 2 ≡ 0) ⊎ (x % 2 ≡ 1)
        → (0 < x / 2 → places k (suc m) (x / 2) ≡ (suc m + count_trailing_zeros k (x / 2)) ∷ places k (suc m) (bit_and (x / 2) (x / 2 - 1)))
        → places (suc k) m x ≡ (m + count_trailing_zeros (suc k) x) ∷ places (suc k) m (bit_and x (x - 1))
    go (inr e) r =
        let z : bit_and x (x - 1) % 2 ≡ 0 = omega (arith, clear_odd x e) in
        let d : bit_and x (x - 1) / 2 ≡ x / 2 = omega (arith, clear_odd x e) in
        let n : m + 0 ≡ m = omega arith in
        rw (e, z, d, n)
    go (inl e) r =
        let z : bit_and x (x - 1) % 2 ≡ 0 = omega (arith, clear_even x e p) in
        let d : bit_and x (x - 1) / 2 ≡ bit_and (x / 2) (x / 2 - 1) = omega (arith, clear_even x e p) in
        let n : m + suc (count_trailing_zeros k (x / 2)) ≡ suc m + count_trailing_zeros k (x / 2) = omega arith in
        rw (e, z, d, n) (r (omega arith))

pub lowest_is : (k x : ℕ) → 0 < x → x < 2 ^ k → (count_trailing_zeros k x < k) × (bit x (count_trailing_zeros k x) ≡ true)
unfolding count_trailing_zeros
lowest_is zero x p h = absurd (omega arith)
lowest_is (suc k) x p h = go (digit x) (λ q. lowest_is k (x / 2) q (omega (arith, pow-suc 2 k)))
  where
    go : (x % 2 ≡ 0) ⊎ (x % 2 ≡ 1) → (0 < x / 2 → (count_trailing_zeros k (x / 2) < k) × (bit (x / 2) (count_trailing_zeros k (x / 2)) ≡ true))
        → (count_trailing_zeros (suc k) x < suc k) × (bit x (count_trailing_zeros (suc k) x) ≡ true)
    go (inr e) r = rw e (omega arith, eq-eqb (x % 2) 1 e)
    go (inl e) r = let w = r (omega arith) in rw e (omega (arith, w.0), w.1)

pub lowest_below : (k x j : ℕ) → j < count_trailing_zeros k x → bit x j ≡ false
unfolding count_trailing_zeros
lowest_below zero x j h = absurd (omega arith)
lowest_below (suc k) x j h = go (digit x) j h (λ i. lowest_below k (x / 2) i)
  where
    go : (x % 2 ≡ 0) ⊎ (x % 2 ≡ 1) → (j : ℕ) → j < count_trailing_zeros (suc k) x → ((i : ℕ) → i < count_trailing_zeros k (x / 2) → bit (x / 2) i ≡ false) → bit x j ≡ false
    go (inr e) j h r = let g : j < 0 = rw e at h in absurd (omega arith)
    go (inl e) zero h r = ne_eqb (x % 2) 1 (λ q. omega arith)
    go (inl e) (suc j) h r = let g : suc j < suc (count_trailing_zeros k (x / 2)) = rw e at h in r j (omega arith)

-- ---- the places of bits

pub places_le : (k m x : ℕ) → length (places k m x) ≤ k
unfolding places
places_le zero m x = omega arith
places_le (suc k) m x = go (digit x) (places_le k (suc m) (x / 2))
  where
    go : (x % 2 ≡ 0) ⊎ (x % 2 ≡ 1) → length (places k (suc m) (x / 2)) ≤ k → length (places (suc k) m x) ≤ suc k
    go (inl e) h = rw e (omega arith)
    go (inr e) h = rw e (omega arith)

pub places_none : (k m : ℕ) → places k m 0 ≡ []
unfolding places
places_none zero m = refl
places_none (suc k) m = places_none k (suc m)

pub count_low : (k m x q : ℕ) → q < m → count q (places k m x) ≡ 0
unfolding places
count_low zero m x q h = refl
count_low (suc k) m x q h = go (digit x) (count_low k (suc m) (x / 2) q (omega arith))
  where
    go : (x % 2 ≡ 0) ⊎ (x % 2 ≡ 1) → count q (places k (suc m) (x / 2)) ≡ 0 → count q (places (suc k) m x) ≡ 0
    go (inl e) r = rw e r
    go (inr e) r = rw e (count_there q m (places k (suc m) (x / 2)) (λ z. omega arith) ∙ r)

pub count_high : (k m x q : ℕ) → m + k ≤ q → count q (places k m x) ≡ 0
unfolding places
count_high zero m x q h = refl
count_high (suc k) m x q h = go (digit x) (count_high k (suc m) (x / 2) q (omega arith))
  where
    go : (x % 2 ≡ 0) ⊎ (x % 2 ≡ 1) → count q (places k (suc m) (x / 2)) ≡ 0 → count q (places (suc k) m x) ≡ 0
    go (inl e) r = rw e r
    go (inr e) r = rw e (count_there q m (places k (suc m) (x / 2)) (λ z. omega arith) ∙ r)

pub count_place : (k m x j : ℕ) → j < k → count (m + j) (places k m x) ≡ one (bit x j)
unfolding places
count_place zero m x j h = absurd (omega arith)
count_place (suc k) m x zero h =
    let n : m + 0 ≡ m = omega arith in
    rw n (go (digit x))
  where
    go : (x % 2 ≡ 0) ⊎ (x % 2 ≡ 1) → count m (places (suc k) m x) ≡ one (bit x 0)
    go (inl e) = rw e (count_low k (suc m) (x / 2) m (omega arith))
    go (inr e) = rw e (count_here m (places k (suc m) (x / 2)) ∙ ap suc (count_low k (suc m) (x / 2) m (omega arith)))
count_place (suc k) m x (suc j) h =
    let n : m + suc j ≡ suc m + j = omega arith in
    rw n (go (digit x) (count_place k (suc m) (x / 2) j (omega arith)))
  where
    go : (x % 2 ≡ 0) ⊎ (x % 2 ≡ 1) → count (suc m + j) (places k (suc m) (x / 2)) ≡ one (bit (x / 2) j) → count (suc m + j) (places (suc k) m x) ≡ one (bit x (suc j))
    go (inl e) r = rw e r
    go (inr e) r = rw e (count_there (suc m + j) m (places k (suc m) (x / 2)) (λ z. omega arith) ∙ r)

pub places_from : (k m x q : ℕ) → q ∈ places k m x → m ≤ q
places_from k m x q h = go (dec_lt q m)
  where
    go : Dec (q < m) → m ≤ q
    go (yes l) = absurd (omega (arith, count_low k m x q l))
    go (no l) = omega arith

pub places_rising : (k m x : ℕ) → Rising (places k m x)
unfolding places
places_rising zero m x = tt
places_rising (suc k) m x = go (digit x) (places_rising k (suc m) (x / 2))
  where
    go : (x % 2 ≡ 0) ⊎ (x % 2 ≡ 1) → Rising (places k (suc m) (x / 2)) → Rising (places (suc k) m x)
    go (inl e) r = rw e r
    go (inr e) r = rw e (λ y h. places_from k (suc m) (x / 2) y h, r)
