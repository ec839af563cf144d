-- What the proofs of the leaves cite.
use mathlib.Core.Path.{◌≡◌, refl, ap, ◌∙◌}
use mathlib.Core.List.{List}
use Prim.Native.Nat.{ℕ, zero, suc, ◌+◌, ◌-◌, ◌*◌, ◌≤◌, ◌<◌}
use native.Mathlib.Omega.{arith}
use borrow.Author.Tests.{eq-eqb, ne_eqb}
use lib.IntN.{ℤ, pos, negsuc}
use mir.Syntax.{w64}
use mir.Val.{to_z, of_z}
use mir.Facts.{to_z-of_z}
use Rattle.cells.specs.Cells.{nat_of, int_at}
use Rattle.cells.specs.Limits.{number_limit}
use Rattle.cells.proofs.Signed.{fits_by}
use Rattle.numbers.specs.declared.Failure.{Failure}
use Rattle.numbers.specs.declared.Failure.TheVariants as calculation
use Rattle.std.specs.Prelude.{Ok, Err}
use Rattle.evaluation.specs.States.{has_number, last_state}
use Rattle.evaluation.specs.declared.ResultState.{ResultState}
use Rattle.evaluation.specs.Results.{state_at, number_at, Recorded}
use Rattle.evaluation.specs.Evaluation.{gives, fails, answer_at, outcome_of}
use Rattle.evaluation.specs.Shown.{state_of, failure_state}

-- ---- a stored answer

state_at_lem : (r : List ℤ) (l : ℕ) → 1 ≤ l → nat_of (int_at r (3 * (l - 1))) ≡ state_at r l
state_at_lem r zero h = absurd (omega arith)
state_at_lem r (suc k) h = let e : suc k - 1 ≡ k = omega arith in rw e

number_at_lem : (r : List ℤ) (l : ℕ) → 1 ≤ l → int_at r (3 * (l - 1) + 1) ≡ number_at r l
number_at_lem r zero h = absurd (omega arith)
number_at_lem r (suc k) h = let e : suc k - 1 ≡ k = omega arith in rw e

positive : (z : ℤ) → 1 ≤ nat_of z → z ≡ pos (nat_of z)
positive (pos n) h = refl
positive (negsuc n) h = absurd (omega arith)

-- of a value that has been evaluated
module _ (r : List ℤ) (l s : ℕ) (h : Recorded 1 r l) (low : 1 ≤ l) where
  state_cell : int_at r (3 * (l - 1)) ≡ pos (state_at r l)
  state_cell =
      positive (int_at r (3 * (l - 1))) (omega (arith, h.least, state_at_lem r l low)) ∙ ap pos (state_at_lem r l low)

  pub state_whole : to_z w64 (of_z w64 (int_at r (3 * (l - 1)))) ≡ pos (state_at r l)
  state_whole = rw state_cell (to_z-of_z {w = w64} (fits_by (pos (state_at r l)) last_state h.most tt))

  pub answer_number : state_at r l ≤ has_number → gives (to_z w64 (of_z w64 (int_at r (3 * (l - 1) + 1)))) s ≡ answer_at r l s
  unfolding answer_at
  answer_number few =
      let is : state_at r l ≡ has_number = omega (arith, h.least) in
      rw (eq-eqb (state_at r l) has_number is)
      (ap (λ y. gives y s) (rw (number_at_lem r l low) (to_z-of_z {w = w64} (fits_by (number_at r l) number_limit (h.ranged is) tt))))

  pub answer_failed : has_number < state_at r l → (f : ResultState) → pos (state_of f) ≡ to_z w64 (of_z w64 (int_at r (3 * (l - 1)))) → fails (state_of f) s ≡ answer_at r l s
  unfolding answer_at
  answer_failed more f p =
      let none : state_at r l ≡ has_number → ⊥ = λ e. omega arith in
      rw (ne_eqb (state_at r l) has_number none) (ap (λ n. fails n s) (ap nat_of (p ∙ state_whole)))

-- ---- the outcome of a calculation

pub given_by : (y : ℤ) (s : ℕ) → gives y s ≡ outcome_of (Ok y) s
unfolding outcome_of
given_by y s = refl

pub failed : (f : Failure) (s : ℕ) → fails (state_of (failure_state f)) s ≡ outcome_of (Err f) s
unfolding outcome_of
failed calculation.OutOfRange s = refl
failed calculation.ZeroDivisor s = refl
