-- What the code answers, in document 01's words: the states for which it has a name each, and an expression's outcome.
use Rattle.std.specs.Prelude.{◌≡◌, ℕ, ◌≤◌, ℤ, pos}
use Rattle.numbers.specs.declared.Failure.{Failure}
use Rattle.numbers.specs.declared.Failure.TheVariants as calculation
use Rattle.evaluation.specs.declared.ResultState.{ResultState}
use Rattle.evaluation.specs.declared.ResultState.TheVariants.{Number, OutOfRange, ZeroDivisor, OutOfSteps, TooDeep}
use Rattle.evaluation.specs.declared.Computed.{Computed}
use Rattle.evaluation.specs.States.{has_number, out_of_range, zero_divisor, out_of_steps, too_deep, last_state}
use Rattle.evaluation.specs.Evaluation.{Outcome}

abbrev pub state_of : ResultState → ℕ
state_of Number = has_number
state_of OutOfRange = out_of_range
state_of ZeroDivisor = zero_divisor
state_of OutOfSteps = out_of_steps
state_of TooDeep = too_deep

-- where an operation gives no number
abbrev pub failure_state : Failure → ResultState
failure_state calculation.OutOfRange = OutOfRange
failure_state calculation.ZeroDivisor = ZeroDivisor

-- a cell has the state of a failure
pub record IsFailureState (z : ℤ) : Type 0 where
  pub state : ℕ
  pub at : z ≡ pos state
  pub least : out_of_range ≤ state
  pub most : state ≤ last_state

abbrev pub shown : Computed → Outcome
shown e = record { number = e.number; state = state_of e.state; left = e.left }
