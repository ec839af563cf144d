-- A worked example, which antt computes from the definition, with no order: a value is read inside a function, and a failure is passed on.
use mathlib.Core.Path.{◌≡◌, refl}
use mathlib.Core.List.{List, [], ◌∷◌}
use Prim.Native.Nat.{ℕ}
use lib.IntN.{ℤ, pos}
use Rattle.kinds.specs.Kinds.{kinds, kind_at, clause_of}
use Rattle.numbers.specs.Rounding.{rounded, quotient}
use Rattle.numbers.specs.Arithmetic.{ranged_of, result, calculated}
use Rattle.numbers.specs.declared.Arithmetic.TheVariants.{HalvesAway}
use Rattle.evaluation.specs.Evaluation.{on_number, answer_at, outcome_of, body_by, call_by, operation_by, choice_by, entered_by, step_by, with_fuel, outcome, value_outcome}
use Rattle.figures.specs.Figures.{after_rounds, result_cells}

-- a line: its kind, a, b, owner and target, before the lines that follow
abbrev line : ℕ → ℤ → ℕ → ℕ → ℕ → List ℤ → List ℤ
line k a b o t rest = pos k ∷ pos 0 ∷ pos 0 ∷ a ∷ pos b ∷ pos 0 ∷ pos o ∷ pos t ∷ rest

-- three cells, before those of the labels that follow
abbrev has : ℕ → ℤ → ℕ → List ℤ → List ℤ
has state number steps rest = pos state ∷ number ∷ pos steps ∷ rest

abbrev no : List ℤ → List ℤ
no = has 0 (pos 0) 0

-- x (label 2) is 7 / 0; f (6) adds x to its argument; y (10) is f of 3
abbrev table : List ℤ
table =
    line 1 (pos 0) 0 0 0 (line 2 (pos 1) 3 1 0 (line 11 (pos 4) 5 2 0 (line 4 (pos 7) 0 2 0 (line 4 (pos 0) 0 2 0
    (line 3 (pos 1) 7 1 0 (line 8 (pos 8) 9 6 0 (line 5 (pos 0) 0 6 0 (line 6 (pos 0) 0 6 2
    (line 2 (pos 1) 11 1 0 (line 7 (pos 12) 0 10 6 (line 4 (pos 3) 0 10 0 [])))))))))))

failure_passed_on : result_cells HalvesAway table 12 36
    ≡ no (has 3 (pos 0) 3 (no (no (no (no (no (no (no (has 3 (pos 0) 5 (no (no [])))))))))))
unfolding after_rounds rounded quotient ranged_of result calculated on_number answer_at outcome_of kinds kind_at clause_of
    body_by call_by operation_by choice_by entered_by step_by with_fuel outcome value_outcome
failure_passed_on = refl
