-- Document 01, "Working out", by open recursion: each rule is told how the expressions inside are evaluated, and `with_fuel` alone
-- counts entries, so that the recursion ends. The rules are the same for any arithmetic α: what two operands give is its own to say.
use Rattle.std.specs.Prelude.{Bool, true, false, cond, Result, Ok, Err, List, ℕ, zero, suc, ◌+◌, ◌-◌, eqb, ℤ, pos}
use Rattle.kinds.specs.Kinds.{clause_of}
use Rattle.kinds.specs.declared.Operation.{Operation}
use Rattle.kinds.specs.declared.Clause.{Clause}
use Rattle.kinds.specs.declared.Clause.TheVariants as clause
use Rattle.cells.specs.Cells.{equals}
use Rattle.cells.specs.Table.{kind, field_a, field_b, field_c, target, line_number}
use Rattle.numbers.specs.Arithmetic.{calculated}
use Rattle.numbers.specs.declared.Arithmetic.{Arithmetic}
use Rattle.numbers.specs.declared.Failure.{Failure}
use Rattle.numbers.specs.declared.Failure.TheVariants as calculation
use Rattle.evaluation.specs.declared.Arguments.{Arguments}
use Rattle.evaluation.specs.States.{has_number, out_of_range, zero_divisor, out_of_steps, too_deep}
use Rattle.evaluation.specs.declared.Value.{Value}
use Rattle.evaluation.specs.Results.{state_at, number_at}

-- ---- outcomes

-- a number and its state, and the steps left; with any other state the number is 0
pub record Outcome : Type 0 where
  pub number : ℤ
  pub state : ℕ
  pub left : ℕ

-- a number, or the state of a failure; with either the steps left
abbrev pub gives : ℤ → ℕ → Outcome
gives y s = record { number = y; state = has_number; left = s }

abbrev pub fails : ℕ → ℕ → Outcome
fails e s = record { number = pos 0; state = e; left = s }

-- "The first failure ends the value": a number goes on, with the steps left.
unfoldable pub on_number : Bool → Outcome → (ℤ → ℕ → Outcome) → Outcome
on_number true o k = k o.number o.left
on_number false o k = fails o.state o.left

abbrev pub unless_failed : Outcome → (ℤ → ℕ → Outcome) → Outcome
unless_failed o k = on_number (eqb o.state has_number) o k

-- the stored answer of label l, failures too
unfoldable pub answer_at : List ℤ → ℕ → ℕ → Outcome
answer_at r l s = cond (eqb (state_at r l) has_number) (gives (number_at r l) s) (fails (state_at r l) s)

-- "a zero b is state 3. A result outside the number range is state 2."
unfoldable pub outcome_of : Result ℤ Failure → ℕ → Outcome
outcome_of (Ok z) s = gives z s
outcome_of (Err calculation.OutOfRange) s = fails out_of_range s
outcome_of (Err calculation.ZeroDivisor) s = fails zero_divisor s

-- ---- the rules

abbrev pub step_limit : ℕ
step_limit = 20000

abbrev pub depth_limit : ℕ
depth_limit = 64

-- how an expression is evaluated: its label, the arguments that its function was given, the steps left, the depth of calls
abbrev pub Way : Type 0
Way = ℕ → Arguments → ℕ → ℕ → Outcome

-- what C hands to the body of its target
abbrev pub one_argument : ℤ → Arguments
one_argument y = record { first = y }

-- "at depth 64 the state is then 5, else the target's body is worked out one deeper"
unfoldable pub body_by : Bool → Way → List ℤ → ℕ → ℤ → ℕ → ℕ → Outcome
body_by true rec t l y s d = fails too_deep s
body_by false rec t l y s d = rec (field_b t (target t l)) (one_argument y) s (d + 1)

-- "C works out its argument" first
unfoldable pub call_by : Way → List ℤ → Way
call_by rec t l g s d = unless_failed (rec (field_a t l) g s d) (λ y s'. body_by (eqb d depth_limit) rec t l y s' d)

-- "A, S, M, D work out a, then b."
unfoldable pub operation_by : Arithmetic → Way → List ℤ → Operation → Way
operation_by α rec t op l g s d =
    unless_failed (rec (field_a t l) g s d)
    (λ a s'. unless_failed (rec (field_b t l) g s' d) (λ b s''. outcome_of (calculated α op a b) s''))

-- b if the test is not 0, c if it is
abbrev pub branch_of : List ℤ → ℕ → ℤ → ℕ
branch_of t l y = cond (equals 0 y) (field_c t l) (field_b t l)

-- "I works out a, then one branch only."
unfoldable pub choice_by : Way → List ℤ → Way
choice_by rec t l g s d = unless_failed (rec (field_a t l) g s d) (λ y s'. rec (branch_of t l y) g s' d)

-- an expression that has been entered, by the clause of its kind; a definition has none, and in a sheet that reads none is ever entered
unfoldable pub entered_by : Arithmetic → Way → List ℤ → List ℤ → Clause → Way
entered_by α rec t r clause.Number l g s d = gives (line_number t l) s
entered_by α rec t r (clause.Argument i) l g s d = gives g.first s
entered_by α rec t r clause.Read l g s d = answer_at r (target t l) s
entered_by α rec t r (clause.Call n) l g s d = call_by rec t l g s d
entered_by α rec t r (clause.Operation op) l g s d = operation_by α rec t op l g s d
entered_by α rec t r clause.Choice l g s d = choice_by rec t l g s d
entered_by α rec t r clause.None l g s d = fails 0 s

-- "Entering an expression takes one step; with none left the state is 4."
unfoldable pub step_by : Arithmetic → Way → List ℤ → List ℤ → Way
step_by α rec t r l g zero d = fails out_of_steps 0
step_by α rec t r l g (suc s) d = entered_by α rec t r (clause_of (kind t l)) l g s d

-- ---- the recursion closed

-- at most `fuel` entries, one in the other
unfoldable pub with_fuel : Arithmetic → ℕ → List ℤ → List ℤ → Way
with_fuel α zero t r l g s d = fails out_of_steps 0
with_fuel α (suc fuel) t r l g s d = step_by α (with_fuel α fuel t r) t r l g s d

-- an expression: entries are no deeper than the steps left
unfoldable pub outcome : Arithmetic → List ℤ → List ℤ → Way
outcome α t r l g s d = with_fuel α s t r l g s d

-- ---- a value

abbrev pub nothing : Arguments
nothing = record { first = pos 0 }

-- "Each V starts with a fresh allowance of 20,000 steps at call depth 0": its body, from the results stored so far
unfoldable pub value_outcome : Arithmetic → List ℤ → List ℤ → ℕ → Outcome
value_outcome α t r v = outcome α t r (field_b t v) nothing step_limit 0

-- state, number and steps taken
abbrev pub value_of : Outcome → Value
value_of o = record { number = o.number; state = o.state; steps = step_limit - o.left }

abbrev pub evaluated : Arithmetic → List ℤ → List ℤ → ℕ → Value
evaluated α t r v = value_of (value_outcome α t r v)
