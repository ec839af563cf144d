-- Tests: what `and`, `or` and `not` of tests say.
use mathlib.Core.Path.{◌≡◌, refl, sym, ◌∙◌}
use mathlib.Core.Logic.{◌⊎◌, inl, inr}
use mathlib.Core.Bool.{Bool, true, false, not, ◌&&◌, ◌||◌}
use Prim.Native.Nat.{◌≤◌, ◌<◌}
use native.Mathlib.Omega.{arith}
pub use Rattle.kinds.proofs.Tests.{clash, and_left, and_right, or_cases}
use Rattle.cells.specs.Lists.{one}

-- a test's two answers at once
pub both_ways : {A : Type 0} (t : Bool) → t ≡ true → t ≡ false → A
both_ways t p q = clash (sym p ∙ q)

pub and_intro : (a b : Bool) → a ≡ true → b ≡ true → (a && b) ≡ true
and_intro a b p q = rw (p, q)

pub or_left : (a b : Bool) → a ≡ true → (a || b) ≡ true
or_left a b p = rw p

pub or_right : (a b : Bool) → b ≡ true → (a || b) ≡ true
or_right true b p = refl
or_right false b p = p

pub or_none_left : (a b : Bool) → (a || b) ≡ false → a ≡ false
or_none_left true b e = e
or_none_left false b e = refl

pub or_none_right : (a b : Bool) → (a || b) ≡ false → b ≡ false
or_none_right true b e = both_ways true refl e
or_none_right false b e = e

-- a test is false if it cannot be true
pub not_so : (t : Bool) → (t ≡ true → ⊥) → t ≡ false
not_so true h = absurd (h refl)
not_so false h = refl

pub so_or_not : (t : Bool) → (t ≡ true) ⊎ (t ≡ false)
so_or_not true = inl refl
so_or_not false = inr refl

-- "a, and not b" is false where b holds if a does
pub and_not : (a b : Bool) → a ≡ true → (a && not b) ≡ false → b ≡ true
and_not a true p q = refl
and_not true false p q = sym q
and_not false false p q = p

pub not_and : (a b : Bool) → (not a && b) ≡ false → b ≡ true → a ≡ true
not_and true b p q = refl
not_and false b p q = both_ways b q p

pub one_le : (t : Bool) → one t ≤ 1
one_le true = omega arith
one_le false = omega arith

pub one_true : (t : Bool) → t ≡ true → one t ≡ 1
one_true t e = rw e

pub one_false : (t : Bool) → (t ≡ true → ⊥) → one t ≡ 0
one_false t h = rw (not_so t h)

pub one_in : (t : Bool) → 0 < one t → t ≡ true
one_in true h = refl
one_in false h = absurd (omega arith)
