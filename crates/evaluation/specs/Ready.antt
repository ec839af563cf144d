-- What evaluation asks of its table, of the results stored so far and of what it enters. A table that Read accepts, and results
-- that start as zeros and get one evaluated value after the other, down a proper order, meet it.
use Rattle.std.specs.Prelude.{◌≡◌, true, List, ℕ, ◌+◌, ◌-◌, ◌*◌, ◌≤◌, ◌<◌, ℤ, pos, nat_abs, length}
use Rattle.kinds.specs.Kinds.{value_code, clause_of}
use Rattle.kinds.specs.declared.Clause.{Clause}
use Rattle.kinds.specs.declared.Clause.TheVariants as clause
use Rattle.cells.specs.Cells.{int_at}
use Rattle.cells.specs.Table.{cell, kind, is_expression, owner}
use Rattle.cells.specs.Accepted.{Accepted}
use Rattle.cells.specs.Reaches.{Reaches}
use Rattle.cells.specs.Limits.{number_limit}
use Rattle.evaluation.specs.declared.Arguments.{Arguments}
use Rattle.evaluation.specs.Results.{state_at, Recorded}
use Rattle.evaluation.specs.Evaluation.{depth_limit}

pub record Ready (t r : List ℤ) : Type 0 where
  pub count : ℕ
  pub accepted : Accepted t count
  pub room : 3 * count ≤ length r
  pub recorded : (l : ℕ) → Recorded 0 r l

-- every value that definition d reaches has been evaluated: its stored state is no longer the 0 that results start with
abbrev pub ReachedEvaluated : List ℤ → List ℤ → ℕ → Type 0
ReachedEvaluated t r d = (w : ℕ) → kind t w ≡ value_code → Reaches t d w → 1 ≤ state_at r w

-- l is an expression of a table of n labels
pub record ExpressionAt (t : List ℤ) (n l : ℕ) : Type 0 where
  pub low : 1 ≤ l
  pub high : l ≤ n
  pub expression : is_expression t l ≡ true

-- expression l may be entered with arguments g at depth d: every value that its definition reaches has been evaluated
pub record Entry (t r : List ℤ) (l : ℕ) (g : Arguments) (d : ℕ) : Type 0 where
  pub ready : Ready t r
  pub line : ExpressionAt t ready.count l
  pub given : nat_abs g.first ≤ number_limit
  pub shallow : d ≤ depth_limit
  pub reached : ReachedEvaluated t r (owner t l)

-- and it is evaluated by clause k
pub record Entered (k : Clause) (t r : List ℤ) (l : ℕ) (g : Arguments) (d : ℕ) : Type 0 where
  pub entry : Entry t r l g d
  pub of : clause_of (kind t l) ≡ k

-- and it is a call, of however many arguments
pub record EnteredCall (t r : List ℤ) (l : ℕ) (g : Arguments) (d : ℕ) : Type 0 where
  pub count : ℕ
  pub entered : Entered (clause.Call count) t r l g d

-- cell j of label l can be read, and is no negative number
pub record Cell (t : List ℤ) (l j : ℕ) : Type 0 where
  pub low : 1 ≤ l
  pub room : 8 * l ≤ length t
  pub column : j < 8
  pub natural : int_at t (8 * (l - 1) + j) ≡ pos (cell t l j)

-- label l's results have their room in r
pub record ResultsRoom (r : List ℤ) (l : ℕ) : Type 0 where
  pub low : 1 ≤ l
  pub room : 3 * l ≤ length r

-- value v may be evaluated: every value that it reaches has been evaluated
pub record Evaluable (t r : List ℤ) (v : ℕ) : Type 0 where
  pub ready : Ready t r
  pub value : kind t v ≡ value_code
  pub reached : ReachedEvaluated t r v
