-- Results have three cells a label, labels from 1: state, number and steps of label l stand from index 3 * (l - 1) on.
-- As in a table, all is 0 of label 0 and past the end.
use Rattle.std.specs.Prelude.{◌≡◌, ℕ, zero, suc, ◌+◌, ◌*◌, ◌≤◌, List, [], ◌∷◌, ℤ, pos, nat_abs}
use Rattle.std.proofs.lemmas.List.Edits.{sets}
use Rattle.cells.specs.Cells.{int_at, nat_at}
use Rattle.cells.specs.Limits.{number_limit}
use Rattle.evaluation.specs.declared.Value.{Value}
use Rattle.evaluation.specs.States.{has_number, last_state}

abbrev pub state_at : List ℤ → ℕ → ℕ
state_at r zero = 0
state_at r (suc k) = nat_at r (3 * k)

abbrev pub number_at : List ℤ → ℕ → ℤ
number_at r zero = pos 0
number_at r (suc k) = int_at r (3 * k + 1)

abbrev pub steps_at : List ℤ → ℕ → ℕ
steps_at r zero = 0
steps_at r (suc k) = nat_at r (3 * k + 2)

-- the results of label l
abbrev pub stored : List ℤ → ℕ → Value
stored r l = record { number = number_at r l; state = state_at r l; steps = steps_at r l }

-- results with v as those of label l; label 0 has none
abbrev pub store : List ℤ → ℕ → Value → List ℤ
store r zero v = r
store r (suc k) v = sets r (3 * k) (pos v.state ∷ v.number ∷ pos v.steps ∷ [])

-- label l's stored state is from `low` on and a state of document 01, and a stored number is in range
pub record Recorded (low : ℕ) (r : List ℤ) (l : ℕ) : Type 0 where
  pub least : low ≤ state_at r l
  pub most : state_at r l ≤ last_state
  pub ranged : state_at r l ≡ has_number → nat_abs (number_at r l) ≤ number_limit
