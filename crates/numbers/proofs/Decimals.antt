-- Laws of decimal numbers: the digits one by one, as the code reads them, and what the definitions give.
use mathlib.Core.Path.{◌≡◌, refl, sym, ◌∙◌, subst}
use mathlib.Core.Bool.{Bool, true, false, cond, ◌&&◌, and-false}
use mathlib.Core.Logic.{◌⊎◌, inl, inr}
use mathlib.Core.List.{List, [], ◌∷◌}
use Prim.Native.Nat.{ℕ, ◌+◌, ◌*◌, ◌-◌, ◌≤◌, ◌<◌}
use native.Mathlib.Omega.{arith}
use native.Mathlib.Numerals.{add-one}
use borrow.Author.Tests.{leb-true, lt-leb, le-leb, ne_eqb}
use lib.Dec.{leb, eqb}
use lib.ListN.{length, get_or, take, drop}
use lib.Seq.{slice, slice-cons, slice_empty}
use lib.IntN.{ℤ, pos, nat_abs}
use Rattle.std.specs.Prelude.{Option, Some, None, nat_eq, slice_get}
use Rattle.std.specs.Cmp.Lexicographic.{pointwise}
use Rattle.cells.proofs.Tests.{and_left}
use Rattle.cells.specs.Cells.{with_sign}
use Rattle.cells.proofs.Signed.{clash, with_sign_size}
use Rattle.cells.specs.Limits.{number_limit}
use Rattle.cells.specs.Characters.{hyphen, digit_zero, digit_nine}
use Rattle.numbers.specs.Decimal.{is_digit, all_digits, digits_value, no_leading_zero, digits_of, decimal_of, signed_of, number_of}

-- ---- a part of a text, byte by byte

pub slice_next : (from to : ℕ) (s : List ℕ) → from < to → to ≤ length s → slice from to s ≡ get_or s from 0 ∷ slice (from + 1) to s
slice_next from to s h k = rw add-one (slice-cons from to s 0 h k)

pub slice_none : (from to : ℕ) (s : List ℕ) → from ≡ to → slice from to s ≡ []
slice_none from to s e = rw e (slice_empty to s)

-- ---- digits

pub digit_is : (c : ℕ) → digit_zero ≤ c → c ≤ digit_nine → is_digit c ≡ true
digit_is c h k = rw (le-leb digit_zero c h, le-leb c digit_nine k)

-- the first byte, for a digit and for any other
pub digits_step : (max v c : ℕ) (f : List ℕ) → is_digit c ≡ true → digits_of max v (c ∷ f) ≡ digits_of max (10 * v + (c - digit_zero)) f
unfolding digits_of all_digits digits_value
digits_step max v c f h = rw h

pub digits_bad : (max v c : ℕ) (f : List ℕ) → is_digit c ≡ false → digits_of max v (c ∷ f) ≡ None
unfolding digits_of all_digits
digits_bad max v c f h = rw h

-- a value only grows
grows : (v : ℕ) (f : List ℕ) → v ≤ digits_value v f
unfolding digits_value
grows v [] = omega arith
grows v (c ∷ f) = let h : 10 * v + (c - digit_zero) ≤ digits_value (10 * v + (c - digit_zero)) f = grows (10 * v + (c - digit_zero)) f in omega arith

pub digits_over : (max v : ℕ) (f : List ℕ) → max < v → digits_of max v f ≡ None
unfolding digits_of
digits_over max v f h = rw (lt-leb (digits_value v f) max (omega (arith, grows v f)), and-false)

pub digits_end : (max v : ℕ) → v ≤ max → digits_of max v [] ≡ Some v
unfolding digits_of all_digits digits_value
digits_end max v h = rw (le-leb v max h)

-- ---- a decimal and a number, by their first bytes

first_nonzero : (c : ℕ) (f : List ℕ) → (c ≡ digit_zero → ⊥) → no_leading_zero (c ∷ f) ≡ true
first_nonzero c [] h = refl
first_nonzero c (d ∷ f) h = rw (ne_eqb c digit_zero h)

pub decimal_none : (max : ℕ) (f : List ℕ) → None ≡ slice_get f 0 → None ≡ decimal_of max f
unfolding decimal_of
decimal_none max [] e = refl
decimal_none max (c ∷ f) e = absurd cc

pub decimal_led : (max : ℕ) (f : List ℕ) → Some digit_zero ≡ slice_get f 0 → 1 < length f → None ≡ decimal_of max f
unfolding decimal_of
decimal_led max [] z h = refl
decimal_led max (c ∷ []) z h = absurd (omega arith)
decimal_led max (c ∷ d ∷ f) z h = let e : digit_zero ≡ c = cc in rw (← e)

pub decimal_digits : (max : ℕ) (f : List ℕ) {c : ℕ} → Some c ≡ slice_get f 0 → (c ≡ digit_zero) × (length f ≤ 1) ⊎ (c ≡ digit_zero → ⊥)
    → digits_of max 0 f ≡ decimal_of max f
unfolding decimal_of
decimal_digits max [] z h = absurd cc
decimal_digits max (x ∷ []) z h = refl
decimal_digits max (x ∷ y ∷ f) z (inl h) = absurd (omega (arith, h.1))
decimal_digits max (x ∷ y ∷ f) {c} z (inr h) = let e : c ≡ x = cc in rw (first_nonzero x (y ∷ f) (rw e at h))

pub number_stripped : (f : List ℕ) (d : Option ℕ) → pointwise nat_eq (take 1 f) (hyphen ∷ []) ≡ true → d ≡ decimal_of number_limit (drop 1 f) → signed_of true d ≡ number_of f
unfolding number_of
number_stripped [] d e h = clash (sym e)
number_stripped (c ∷ f) d e h = rw (and_left (eqb c hyphen) true e, h)

pub number_bare : (f : List ℕ) (d : Option ℕ) → pointwise nat_eq (take 1 f) (hyphen ∷ []) ≡ false → d ≡ decimal_of number_limit f → signed_of false d ≡ number_of f
unfolding number_of decimal_of
number_bare [] d e h = rw h
number_bare (c ∷ f) d e h = rw h (go (eqb c hyphen) e)
  where
    go : (b : Bool) → (b && true) ≡ false
        → signed_of false (decimal_of number_limit (c ∷ f)) ≡ cond b (signed_of true (decimal_of number_limit f)) (signed_of false (decimal_of number_limit (c ∷ f)))
    go true e = clash e
    go false e = refl

-- the same of a part of a text

module _ (from to : ℕ) (s : List ℕ) where
  module _ (h : from < to) (k : to ≤ length s) where
    pub decimal_zero : (max : ℕ) → get_or s from 0 ≡ digit_zero → to ≤ from + 1 → Some 0 ≡ decimal_of max (slice from to s)
    unfolding decimal_of
    decimal_zero max z l =
        let e : from + 1 ≡ to = omega arith in
        rw (slice_next from to s h k, slice_none (from + 1) to s e, z) (sym (digits_step max 0 digit_zero [] refl ∙ digits_end max 0 (omega arith)))

    pub decimal_plain : (max : ℕ) → (get_or s from 0 ≡ digit_zero → ⊥) → digits_of max 0 (slice from to s) ≡ decimal_of max (slice from to s)
    unfolding decimal_of
    decimal_plain max z = rw (slice_next from to s h k, first_nonzero (get_or s from 0) (slice (from + 1) to s) z)

    pub number_negative : get_or s from 0 ≡ hyphen → signed_of true (decimal_of number_limit (slice (from + 1) to s)) ≡ number_of (slice from to s)
    unfolding number_of
    number_negative z = rw (slice_next from to s h k, z)

    pub number_plain : (get_or s from 0 ≡ hyphen → ⊥) → signed_of false (decimal_of number_limit (slice from to s)) ≡ number_of (slice from to s)
    unfolding number_of
    number_plain z = rw (slice_next from to s h k, ne_eqb (get_or s from 0) hyphen z)

-- ---- what it takes for bytes to be a decimal, and no more

pub record Written (max : ℕ) (f : List ℕ) (v : ℕ) : Type 0 where
  pub plain : no_leading_zero f ≡ true
  pub digits : all_digits f ≡ true
  pub is : digits_value 0 f ≡ v
  pub most : v ≤ max

pub written : (max : ℕ) (f : List ℕ) (v : ℕ) → decimal_of max f ≡ Some v → Written max f v
unfolding decimal_of digits_of
written max f v = go (no_leading_zero f) (all_digits f) (leb (digits_value 0 f) max) refl refl refl
  where
    never : None ≡ Some v → Written max f v
    never e = let z : ◌≡◌ {A = ℕ} 0 1 = cc in absurd (omega arith)

    go : (x y z : Bool) → no_leading_zero f ≡ x → all_digits f ≡ y → leb (digits_value 0 f) max ≡ z
        → cond x (cond (y && z) (Some (digits_value 0 f)) None) None ≡ Some v → Written max f v
    go true true true a b c e =
        let is : digits_value 0 f ≡ v = cc in
        record { plain = a; digits = b; is = is; most = omega (arith, is, leb-true (digits_value 0 f) max c) }
    go true true false a b c e = never e
    go true false z a b c e = never e
    go false y z a b c e = never e

pub decimal_is : (max : ℕ) (f : List ℕ) (v : ℕ) → Written max f v → decimal_of max f ≡ Some v
unfolding decimal_of digits_of
decimal_is max f v w = rw (w.plain, w.digits, w.is, le-leb v max w.most)

-- ---- what the definitions give is at most the limit

pub decimal_size : (max : ℕ) (f : List ℕ) (v : ℕ) → decimal_of max f ≡ Some v → v ≤ max
decimal_size max f v e = (written max f v e).most

abbrev Bounded : Option ℤ → Type 0
Bounded (Some z) = nat_abs z ≤ number_limit
Bounded None = Unit {0}

signed_bounded : (negative : Bool) (f : List ℕ) (d : Option ℕ) → decimal_of number_limit f ≡ d → Bounded (signed_of negative d)
signed_bounded negative f None e = tt
signed_bounded negative f (Some v) e = go (negative && eqb v 0)
  where
    go : (x : Bool) → Bounded (cond x None (Some (with_sign negative v)))
    go true = tt
    go false = rw (with_sign_size negative v) (decimal_size number_limit f v e)

bounded : (f : List ℕ) → Bounded (number_of f)
unfolding number_of
bounded [] = tt
bounded (c ∷ f) = go (eqb c hyphen)
  where
    go : (x : Bool) → Bounded (cond x (signed_of true (decimal_of number_limit f)) (signed_of false (decimal_of number_limit (c ∷ f))))
    go true = signed_bounded true f _ refl
    go false = signed_bounded false (c ∷ f) _ refl

pub number_size : (f : List ℕ) (z : ℤ) → number_of f ≡ Some z → nat_abs z ≤ number_limit
number_size f z e = subst Bounded e (bounded f)

-- ---- a larger limit gives the same decimal, and a decimal is a number

pub decimal_more : (max more : ℕ) (f : List ℕ) (v : ℕ) → max ≤ more → decimal_of max f ≡ Some v → decimal_of more f ≡ Some v
decimal_more max more f v h e =
    let w : Written max f v = written max f v e in
    decimal_is more f v (record { plain = w.plain; digits = w.digits; is = w.is; most = omega (arith, w.most) })

first_digit : (c : ℕ) (f : List ℕ) → all_digits (c ∷ f) ≡ true → digit_zero ≤ c
unfolding all_digits
first_digit c f = go (leb digit_zero c) refl
  where
    go : (x : Bool) → leb digit_zero c ≡ x → (x && leb c digit_nine) && all_digits f ≡ true → digit_zero ≤ c
    go true a e = leb-true digit_zero c a
    go false a e = clash (sym e)

-- a first digit other than 0 makes it 1 at least
pub decimal_some : (max c : ℕ) (f : List ℕ) (v : ℕ) → decimal_of max (c ∷ f) ≡ Some v → (c ≡ digit_zero → ⊥) → 1 ≤ v
unfolding digits_value
decimal_some max c f v e h =
    let w = written max (c ∷ f) v e in
    omega (arith, w.is, first_digit c f w.digits, grows (10 * 0 + (c - digit_zero)) f, h)

pub decimal_number : (max : ℕ) (f : List ℕ) (v : ℕ) → max ≤ number_limit → decimal_of max f ≡ Some v → number_of f ≡ Some (pos v)
unfolding number_of
decimal_number max [] v h e = clash (sym (written max [] v e).plain)
decimal_number max (c ∷ f) v h e =
    let d : digit_zero ≤ c = first_digit c f (written max (c ∷ f) v e).digits in
    rw (ne_eqb c hyphen (λ (p : c ≡ hyphen). omega arith), decimal_more max number_limit (c ∷ f) v h e)
