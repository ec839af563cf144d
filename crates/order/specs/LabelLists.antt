-- Lists of labels: what the definitions of this crate are made of.
use Rattle.std.specs.Prelude.{List, [], ◌∷◌, ◌++◌, Bool, false, cond, ◌||◌, ℕ, zero, suc, ◌<◌, ltb}
use Rattle.std.proofs.Math.Option.{Option, none, some}
pub use Rattle.cells.specs.Lists.{one, count}

infix 50 ◌∈◌
-- x stands in l
abbrev pub ◌∈◌ : ℕ → List ℕ → Type 0
x ∈ l = 0 < count x l

abbrev pub mem : ℕ → List ℕ → Bool
mem x l = ltb 0 (count x l)

-- m, m + 1, ..: k numbers
abbrev pub up_from : ℕ → ℕ → List ℕ
up_from m zero = []
up_from m (suc k) = m ∷ up_from (suc m) k

-- those of l that pass a test, in their order
abbrev pub filter : (ℕ → Bool) → List ℕ → List ℕ
filter f [] = []
filter f (x ∷ l) = cond (f x) (x ∷ filter f l) (filter f l)

-- some of l passes the test
abbrev pub any : (ℕ → Bool) → List ℕ → Bool
any f [] = false
any f (x ∷ l) = f x || any f l

-- the first of l that passes the test
abbrev pub first : (ℕ → Bool) → List ℕ → Option ℕ
first f [] = none
first f (x ∷ l) = cond (f x) (some x) (first f l)

-- the lists of all of l, one after the other
abbrev pub joined : (ℕ → List ℕ) → List ℕ → List ℕ
joined f [] = []
joined f (x ∷ l) = f x ++ joined f l
