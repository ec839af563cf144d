-- Document 01's results per label, state, number "and steps taken; lines other than V have three zeros", free of any order, by any
-- arithmetic α.
use Rattle.std.specs.Prelude.{◌≡◌, cond, List, [], ◌∷◌, ◌++◌, ℕ, zero, suc, ◌-◌, ◌*◌, ℤ, pos, length}
use Rattle.kinds.specs.Kinds.{value_code}
use Rattle.cells.specs.Cells.{zeros}
use Rattle.cells.specs.Table.{kind, field_b, field_c, target, line_number}
use Rattle.order.specs.Order.{is_v}
use Rattle.order.specs.Evaluating.{label_cells}
use Rattle.numbers.specs.declared.Arithmetic.{Arithmetic}
use Rattle.evaluation.specs.declared.Value.{Value}
use Rattle.evaluation.specs.Results.{store}
use Rattle.evaluation.specs.Evaluation.{evaluated}

-- ---- results in cells

-- those of a line other than V
abbrev pub blank : Value
blank = record { number = pos 0; state = 0; steps = 0 }

abbrev pub value_cells : Value → List ℤ
value_cells v = pos v.state ∷ v.number ∷ pos v.steps ∷ []

-- those of labels 1 to n, three cells a label
abbrev pub results_of : (ℕ → Value) → ℕ → List ℤ
results_of f zero = []
results_of f (suc k) = results_of f k ++ value_cells (f (suc k))

-- the same in a buffer of m cells, whose unused cells are zero
abbrev pub buffer_of : (ℕ → Value) → ℕ → ℕ → List ℤ
buffer_of f n m = results_of f n ++ zeros (m - 3 * n)

-- ---- the figures

-- label l's results after k rounds, in each of which every value is evaluated from the results of the round before
unfoldable pub after_rounds : Arithmetic → List ℤ → ℕ → ℕ → ℕ → Value
after_rounds α t n zero l = blank
after_rounds α t n (suc k) l = cond (is_v t l) (evaluated α t (results_of (after_rounds α t n k) n) l) blank

-- each label's results. Where no value reaches itself, a value has its results one round after those that it reaches; so n rounds are
-- enough, and another one would change nothing.
abbrev pub figures : Arithmetic → List ℤ → ℕ → ℕ → Value
figures α t n = after_rounds α t n n

-- the whole results buffer of m cells
abbrev pub result_cells : Arithmetic → List ℤ → ℕ → ℕ → List ℤ
result_cells α t n m = buffer_of (figures α t n) n m

-- ---- what singles them out

-- Results satisfy "Working out": each V has what it comes to from these very results, and all other cells are 0.
pub record Evaluated (α : Arithmetic) (t r : List ℤ) : Type 0 where
  pub values : (v : ℕ) → kind t v ≡ value_code → label_cells 3 r v ≡ value_cells (evaluated α t r v)
  pub others : (l : ℕ) → (kind t l ≡ value_code → ⊥) → label_cells 3 r l ≡ label_cells 3 (zeros (length r)) l

-- ---- down an order

-- results once value v has been evaluated from them and stored
abbrev pub evaluate_into : Arithmetic → List ℤ → List ℤ → ℕ → List ℤ
evaluate_into α t r v = store r v (evaluated α t r v)

-- ---- two tables

-- the same kinds, fields a, b and c, and targets
pub record SameExpressions (t u : List ℤ) : Type 0 where
  pub kinds : (l : ℕ) → kind u l ≡ kind t l
  -- the whole cell a
  pub numbers : (l : ℕ) → line_number u l ≡ line_number t l
  pub b : (l : ℕ) → field_b u l ≡ field_b t l
  pub c : (l : ℕ) → field_c u l ≡ field_c t l
  pub targets : (l : ℕ) → target u l ≡ target t l
