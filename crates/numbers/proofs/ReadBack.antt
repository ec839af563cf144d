-- A number that is written is a number of document 01's form, and reading it gives it back.
use mathlib.Core.Path.{◌≡◌, refl, sym, ◌∙◌}
use mathlib.Core.Bool.{Bool, true, false, ◌&&◌}
use mathlib.Core.List.{List, [], ◌∷◌, ◌++◌}
use Prim.Native.Nat.{ℕ, zero, suc, ◌+◌, ◌-◌, ◌*◌, ◌/◌, ◌%◌, ◌≤◌, ◌<◌}
use native.Mathlib.Omega.{arith}
use borrow.Author.Tests.{ne_eqb, eqb-true, eqb-false}
use lib.Dec.{eqb}
use lib.IntN.{ℤ, pos, negsuc, nat_abs}
use Rattle.std.specs.Prelude.{Some}
use Rattle.cells.proofs.Signed.{clash}
use Rattle.cells.specs.Limits.{number_limit}
use Rattle.cells.specs.Characters.{digit_zero}
use Rattle.numbers.specs.Decimal.{is_digit, all_digits, digits_value, no_leading_zero, decimal_of, number_of}
use Rattle.numbers.proofs.Decimals.{digit_is, Written, decimal_is, decimal_number}
use Rattle.numbers.specs.Numerals.{digits, decimal, integer}

-- ---- value and digits, with one digit more

value_behind : (v : ℕ) (f : List ℕ) (c : ℕ) → digits_value v (f ++ c ∷ []) ≡ 10 * digits_value v f + (c - digit_zero)
unfolding digits_value
value_behind v [] c = refl
value_behind v (x ∷ f) c = value_behind (10 * v + (x - digit_zero)) f c

all_behind : (f : List ℕ) (c : ℕ) → all_digits f ≡ true → is_digit c ≡ true → all_digits (f ++ c ∷ []) ≡ true
unfolding all_digits
all_behind [] c h d = rw d
all_behind (x ∷ f) c h d = go (is_digit x) h (λ e. all_behind f c e d)
  where
    go : (b : Bool) → (b && all_digits f) ≡ true → (all_digits f ≡ true → all_digits (f ++ c ∷ []) ≡ true) → (b && all_digits (f ++ c ∷ [])) ≡ true
    go true e older = older e
    go false e older = clash (sym e)

digits_right : (k n : ℕ) → n ≤ k → (digits_value 0 (digits k n) ≡ n) × (all_digits (digits k n) ≡ true)
unfolding digits digits_value all_digits
digits_right zero n h = (omega arith, refl)
digits_right (suc k) zero h = (refl, refl)
digits_right (suc k) (suc n) h =
    let r = digits_right k (suc n / 10) (omega arith) in (
      value_behind 0 (digits k (suc n / 10)) (digit_zero + suc n % 10) ∙ omega (arith, r.0),
      all_behind (digits k (suc n / 10)) (digit_zero + suc n % 10) r.1 (digit_is (digit_zero + suc n % 10) (omega arith) (omega arith)),
    )

-- ---- no leading zero

abbrev Leads : List ℕ → Type 0
Leads [] = ⊥
Leads (c ∷ f) = c ≡ digit_zero → ⊥

leads_behind : (f : List ℕ) (c : ℕ) → Leads f → Leads (f ++ c ∷ [])
leads_behind [] c h = absurd h
leads_behind (x ∷ f) c h = h

leads_plain : (f : List ℕ) → Leads f → no_leading_zero f ≡ true
leads_plain [] h = absurd h
leads_plain (c ∷ []) h = refl
leads_plain (c ∷ d ∷ f) h = rw (ne_eqb c digit_zero h)

digits_zero : (k : ℕ) → digits k 0 ≡ []
unfolding digits
digits_zero zero = refl
digits_zero (suc k) = refl

digits_lead : (k n : ℕ) → 0 < n → n ≤ k → Leads (digits k n)
unfolding digits
digits_lead zero n h g = absurd (omega arith)
digits_lead (suc k) zero h g = absurd (omega arith)
digits_lead (suc k) (suc n) h g = go (eqb (suc n / 10) 0) refl (λ p. digits_lead k (suc n / 10) p (omega arith))
  where
    go : (b : Bool) → eqb (suc n / 10) 0 ≡ b → (0 < suc n / 10 → Leads (digits k (suc n / 10))) → Leads (digits k (suc n / 10) ++ (digit_zero + suc n % 10) ∷ [])
    go true e older = let q = eqb-true (suc n / 10) 0 e in rw (q, digits_zero k) (λ z. omega arith)
    go false e older = leads_behind (digits k (suc n / 10)) (digit_zero + suc n % 10) (older (omega (arith, eqb-false (suc n / 10) 0 e)))

-- ---- the whole number

decimal_written : (max n : ℕ) → n ≤ max → Written max (decimal n) n
unfolding decimal all_digits digits_value
decimal_written max zero h = record { plain = refl; digits = refl; is = refl; most = h }
decimal_written max (suc n) h =
    let r = digits_right (suc n) (suc n) (omega arith) in
    record { plain = leads_plain (digits (suc n) (suc n)) (digits_lead (suc n) (suc n) (omega arith) (omega arith)); digits = r.1; is = r.0; most = h }

pub decimal_reads : (max n : ℕ) → n ≤ max → decimal_of max (decimal n) ≡ Some n
decimal_reads max n h = decimal_is max (decimal n) n (decimal_written max n h)

pub integer_reads : (x : ℤ) → nat_abs x ≤ number_limit → number_of (integer x) ≡ Some x
unfolding number_of
integer_reads (pos n) h = decimal_number number_limit (decimal n) n (omega arith) (decimal_reads number_limit n h)
integer_reads (negsuc n) h = rw (decimal_reads number_limit (suc n) h, ne_eqb (suc n) 0 (λ e. omega arith))
