-- "A value read before it has been worked out puts another prism on the block": what it means that none is.
use Rattle.std.specs.Prelude.{◌≡◌, List, ◌∷◌, ◌++◌, ℕ, suc, ◌+◌, ℤ}
use Rattle.kinds.specs.Kinds.{clause_of}
use Rattle.cells.specs.Table.{kind, field_a, field_b, target}
use Rattle.kinds.specs.declared.Operation.{Operation}
use Rattle.order.specs.Evaluating.{down}
use Rattle.numbers.specs.declared.Arithmetic.{Arithmetic}
use Rattle.evaluation.specs.States.{has_number}
use Rattle.evaluation.specs.Evaluation.{branch_of, depth_limit, step_limit, one_argument, outcome, nothing}
use Rattle.evaluation.specs.Results.{Recorded}
use Rattle.evaluation.specs.declared.Arguments.{Arguments}
use Rattle.kinds.specs.declared.Clause.{Clause}
use Rattle.kinds.specs.declared.Clause.TheVariants as clause
use Rattle.evaluation.specs.Evaluation.{Outcome}
use Rattle.figures.specs.Figures.{evaluate_into}

-- line l is evaluated by clause k
abbrev pub GoesBy : List ℤ → Clause → ℕ → Type 0
GoesBy t k l = clause_of (kind t l) ≡ k

-- what field a of line l comes to, the argument, first operand or test; and that it is a number
abbrev pub first_outcome : Arithmetic → List ℤ → List ℤ → ℕ → Arguments → ℕ → ℕ → Outcome
first_outcome α t r l g s d = outcome α t r (field_a t l) g s d

abbrev pub FirstNumber : Arithmetic → List ℤ → List ℤ → ℕ → Arguments → ℕ → ℕ → Type 0
FirstNumber α t r l g s d = (first_outcome α t r l g s d).state ≡ has_number

-- Evaluating expression l from results r, with arguments g, some steps left and at depth d, enters expression x: it is l itself, or
-- entered in evaluating what l's rule evaluates.
pub data Enters (α : Arithmetic) (t r : List ℤ) (x : ℕ) : ℕ → Arguments → ℕ → ℕ → Type 0 where
  itself : {g : Arguments} {s d : ℕ} → Enters α t r x x g (suc s) d
  -- "C works out its argument; at depth 64 the state is then 5, else the target's body is worked out one deeper"
  argument : (l k : ℕ) {g : Arguments} {s d : ℕ} → GoesBy t (clause.Call k) l → Enters α t r x (field_a t l) g s d → Enters α t r x l g (suc s) d
  body : (l k : ℕ) {g : Arguments} {s d : ℕ} → GoesBy t (clause.Call k) l → FirstNumber α t r l g s d → (d ≡ depth_limit → ⊥)
      → Enters α t r x (field_b t (target t l)) (one_argument (first_outcome α t r l g s d).number) (first_outcome α t r l g s d).left (d + 1) → Enters α t r x l g (suc s) d
  -- "A, S, M, D work out a, then b"
  first : (l : ℕ) (op : Operation) {g : Arguments} {s d : ℕ} → GoesBy t (clause.Operation op) l → Enters α t r x (field_a t l) g s d → Enters α t r x l g (suc s) d
  second : (l : ℕ) (op : Operation) {g : Arguments} {s d : ℕ} → GoesBy t (clause.Operation op) l → FirstNumber α t r l g s d
      → Enters α t r x (field_b t l) g (first_outcome α t r l g s d).left d → Enters α t r x l g (suc s) d
  -- "I works out a, then one branch only"
  test : (l : ℕ) {g : Arguments} {s d : ℕ} → GoesBy t clause.Choice l → Enters α t r x (field_a t l) g s d → Enters α t r x l g (suc s) d
  branch : (l : ℕ) {g : Arguments} {s d : ℕ} → GoesBy t clause.Choice l → FirstNumber α t r l g s d
      → Enters α t r x (branch_of t l (first_outcome α t r l g s d).number) g (first_outcome α t r l g s d).left d → Enters α t r x l g (suc s) d

-- evaluating value v from results r enters R line x
pub record EntersRead (α : Arithmetic) (t r : List ℤ) (v x : ℕ) : Type 0 where
  pub read : GoesBy t clause.Read x
  pub entered : Enters α t r x (field_b t v) nothing step_limit 0

-- Evaluating the values of an order in turn, from results r: at each value's turn, every R entered finds a stored answer of its target
-- with a state from 1 to 5.
abbrev pub NeverEarly : Arithmetic → List ℤ → List ℕ → List ℤ → Type 0
NeverEarly α t o r = (a : List ℕ) (v : ℕ) (b : List ℕ) → o ≡ a ++ v ∷ b
    → (x : ℕ) → EntersRead α t (down (evaluate_into α t) a r) v x → Recorded 1 (down (evaluate_into α t) a r) (target t x)
