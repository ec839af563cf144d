-- Order 4: which values a pair has worked out again, and the figures that are stored for it. The table t has n labels; the number's owner
-- is d.
use Rattle.std.specs.Prelude.{◌≡◌, Bool, ◌||◌, List, [], ◌∷◌, ◌++◌, ◌⊎◌, ℕ, zero, suc, ◌+◌, eqb, ltb, ℤ, pos, length}
use Rattle.cells.specs.Table.{owner}
use Rattle.cells.specs.Reaches.{Reaches}
use Rattle.order.specs.LabelLists.{one, filter}
use Rattle.order.specs.Order.{values, reaches}
use Rattle.numbers.specs.declared.Arithmetic.{Arithmetic}
use Rattle.evaluation.specs.States.{has_number}
use Rattle.evaluation.specs.declared.Value.{Value}
use Rattle.figures.specs.Figures.{figures}
use Rattle.redoing.specs.Pairs.{pair_label, with_pairs}

-- ---- "all values that mention that number's owner by any chain, or are its owner"

-- value v is one of them
abbrev pub Redone : List ℤ → ℕ → ℕ → Type 0
Redone t d v = (v ≡ d) ⊎ Reaches t v d

-- the same as a test
abbrev pub is_redone : List ℤ → ℕ → ℕ → ℕ → Bool
is_redone t n d v = eqb v d || reaches t n v d

-- those of an order, in its sequence
abbrev pub redone_of : List ℤ → ℕ → ℕ → List ℕ → List ℕ
redone_of t n d o = filter (is_redone t n d) o

-- ---- "for each pair, how many values were redone, how many now fail, and the sum of all step counts"

abbrev pub redone_count : List ℤ → ℕ → ℕ → ℕ
redone_count t n d = length (redone_of t n d (values t n))

-- the sum over labels 1 to n
abbrev pub total : (ℕ → ℕ) → ℕ → ℕ
total f zero = 0
total f (suc k) = total f k + f (suc k)

-- a state above 1 is a failure's; lines other than V have state 0
abbrev pub is_failure : Value → Bool
is_failure v = ltb has_number v.state

-- of the results f of n labels
unfoldable pub failing : (ℕ → Value) → ℕ → ℕ
failing f n = total (λ l. one (is_failure (f l))) n

unfoldable pub step_sum : (ℕ → Value) → ℕ → ℕ
step_sum f n = total (λ l. (f l).steps) n

-- the three cells of a pair, of the table u after it
abbrev pub change_cells : Arithmetic → List ℤ → ℕ → ℕ → List ℤ
change_cells α u n d = pos (redone_count u n d) ∷ pos (failing (figures α u n) n) ∷ pos (step_sum (figures α u n) n) ∷ []

-- those of pair k, of the table t before the first pair
abbrev pub change_of : Arithmetic → List ℤ → ℕ → List ℤ → ℕ → List ℤ
change_of α t n ps k = change_cells α (with_pairs ps k t) n (owner t (pair_label ps k))

-- those of the first k pairs
abbrev pub changes_of : Arithmetic → List ℤ → ℕ → List ℤ → ℕ → List ℤ
changes_of α t n ps zero = []
changes_of α t n ps (suc k) = changes_of α t n ps k ++ change_of α t n ps (suc k)
