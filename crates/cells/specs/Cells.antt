-- The cells of a lent buffer: signed 64-bit numbers, read as integers or, where only those from 0 on count, as natural numbers.
use Rattle.std.specs.Prelude.{ℕ, Bool, true, false, List, eqb, get_or, replicate, ℤ, pos, negsuc, neg_ℤ}

abbrev pub is_negative : ℤ → Bool
is_negative (pos n) = false
is_negative (negsuc n) = true

-- whether an integer is the natural number k
abbrev pub equals : ℕ → ℤ → Bool
equals k (pos n) = eqb n k
equals k (negsuc n) = false

-- an integer as a natural number: 0 where it is negative
abbrev pub nat_of : ℤ → ℕ
nat_of (pos n) = n
nat_of (negsuc n) = 0

-- the integer of size m, negative where the flag says so
abbrev pub with_sign : Bool → ℕ → ℤ
with_sign false m = pos m
with_sign true m = neg_ℤ (pos m)

-- cell i, and 0 past the end
abbrev pub int_at : List ℤ → ℕ → ℤ
int_at t i = get_or t i (pos 0)

abbrev pub nat_at : List ℤ → ℕ → ℕ
nat_at t i = nat_of (int_at t i)

abbrev pub zeros : ℕ → List ℤ
zeros n = replicate n (pos 0)
