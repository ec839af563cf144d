-- What the definitions of several crates are made of: lists of numbers, counted and tested, and 0 where a number stands for none.
use Rattle.std.specs.Prelude.{Bool, true, false, ◌&&◌, List, [], ◌∷◌, ℕ, zero, suc, ◌+◌, eqb}

-- 1 where a test passes, else 0
abbrev pub one : Bool → ℕ
one true = 1
one false = 0

-- how often x stands in l
abbrev pub count : ℕ → List ℕ → ℕ
count x [] = 0
count x (y ∷ l) = one (eqb x y) + count x l

-- every number of the list passes the test
abbrev pub all : (ℕ → Bool) → List ℕ → Bool
all test [] = true
all test (x ∷ l) = test x && all test l

-- one label or place and, where it is 0, which stands for none, the other
abbrev pub or_if_zero : ℕ → ℕ → ℕ
or_if_zero zero b = b
or_if_zero (suc a) b = suc a
