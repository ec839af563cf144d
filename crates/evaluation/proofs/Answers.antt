-- What the members of the cycle answer: a law for each way through the code.
use mathlib.Core.Path.{◌≡◌, refl, sym, ap, subst, ◌∙◌}
use mathlib.Core.Bool.{false}
use mathlib.Core.List.{List}
use Prim.Native.Nat.{ℕ, zero, suc, ◌+◌, ◌-◌, ◌≤◌}
use native.Mathlib.Omega.{arith}
use borrow.Author.Tests.{eq-eqb, ne_eqb}
use lib.Dec.{eqb}
use lib.IntN.{ℤ}
use Rattle.kinds.specs.Kinds.{clause_of}
use Rattle.cells.specs.Table.{kind, field_a, field_b, target}
use Rattle.numbers.specs.Arithmetic.{calculated}
use Rattle.kinds.specs.declared.Operation.{Operation}
use Rattle.numbers.specs.declared.Arithmetic.{Arithmetic}
use Rattle.evaluation.specs.Evaluation.{Outcome, fails, on_number, unless_failed, outcome_of, depth_limit, one_argument, body_by, call_by, operation_by, branch_of, choice_by}
use Rattle.evaluation.specs.Evaluation.{entered_by, step_by, outcome, nothing, step_limit, value_outcome, value_of, evaluated}
use Rattle.evaluation.specs.Shown.{state_of, shown}
use Rattle.evaluation.specs.declared.Arguments.{Arguments}
use Rattle.kinds.specs.declared.Clause.{Clause}
use Rattle.evaluation.specs.declared.ResultState.{ResultState}
use Rattle.evaluation.specs.declared.ResultState.TheVariants.{Number, OutOfRange, ZeroDivisor, OutOfSteps, TooDeep}
use Rattle.evaluation.specs.States.{has_number, out_of_steps, too_deep}
use Rattle.evaluation.proofs.Entries.{given}
use Rattle.evaluation.specs.declared.Computed.{Computed}
use Rattle.evaluation.proofs.Steps.{unrolled, left_most}

-- ---- after an operand, evaluated as e

no_number : (s : ResultState) → (s ≡ Number → ⊥) → eqb (state_of s) has_number ≡ false
no_number Number f = absurd (f refl)
no_number OutOfRange f = refl
no_number ZeroDivisor f = refl
no_number OutOfSteps f = refl
no_number TooDeep f = refl

-- a failure ends what it is an operand of
stops : (e : Computed) {w u : Outcome} (k : ℤ → ℕ → Outcome) → shown e ≡ w → (e.state ≡ Number → ⊥) → u ≡ fails (state_of e.state) e.left → u ≡ unless_failed w k
unfolding on_number
stops e k p f i =
    let is : unless_failed (shown e) k ≡ fails (state_of e.state) e.left = rw (no_number e.state f) refl in
    i ∙ sym is ∙ ap (λ o. unless_failed o k) p

goes : (e : Computed) {w u : Outcome} (k : ℤ → ℕ → Outcome) → shown e ≡ w → e.state ≡ Number → u ≡ k e.number e.left → u ≡ unless_failed w k
unfolding on_number
goes e k p q h = h ∙ ap (λ o. unless_failed o k) (sym (given e q) ∙ p)

module _ (α : Arithmetic) (t r : List ℤ) (l : ℕ) (g : Arguments) (s d : ℕ) {x : ℕ} (e : Computed) (ex : x ≡ field_a t l) (p : shown e ≡ outcome α t r x g s d) where
  at : shown e ≡ outcome α t r (field_a t l) g s d
  at = p ∙ ap (λ x. outcome α t r x g s d) ex

  -- the first operand fails, in whatever rule
  pub first_fails : {u : Outcome} (k : ℤ → ℕ → Outcome) → (e.state ≡ Number → ⊥) → u ≡ fails (state_of e.state) e.left
      → u ≡ unless_failed (outcome α t r (field_a t l) g s d) k
  first_fails k q i = stops e k at q i

  pub call_deep : {u : Outcome} → e.state ≡ Number → d ≡ depth_limit → u ≡ fails too_deep e.left → u ≡ call_by (outcome α t r) t l g s d
  unfolding call_by body_by
  call_deep q h i = goes e (λ y s'. body_by (eqb d depth_limit) (outcome α t r) t l y s' d) at q (rw (eq-eqb d depth_limit h) i)

  pub call_goes : {y' : ℤ} {z b s' d' : ℕ} {α' : Arithmetic} {u : Outcome} → e.state ≡ Number → (d ≡ depth_limit → ⊥) → y' ≡ e.number → z ≡ target t l → b ≡ field_b t z
      → s' ≡ e.left → d' ≡ d + 1 → α' ≡ α → u ≡ outcome α' t r b (one_argument y') s' d' → u ≡ call_by (outcome α t r) t l g s d
  unfolding call_by body_by
  call_goes q h ey ez eb es ed ea i =
      goes e (λ y s'. body_by (eqb d depth_limit) (outcome α t r) t l y s' d) at q
      (rw (ne_eqb d depth_limit h) (rw ey at (rw ez at (rw eb at (rw es at (rw ed at (rw ea at i)))))))

  after : Operation → ℤ → ℕ → Outcome
  after op a s' = unless_failed (outcome α t r (field_b t l) g s' d) (λ b s''. outcome_of (calculated α op a b) s'')

  module _ {x' s' d' : ℕ} {α' : Arithmetic} (e' : Computed) (q : e.state ≡ Number) (ex' : x' ≡ field_b t l) (es : s' ≡ e.left) (ed : d' ≡ d) (ea : α' ≡ α)
      (p' : shown e' ≡ outcome α' t r x' g s' d') (op : Operation) where
    at' : shown e' ≡ outcome α t r (field_b t l) g e.left d
    at' = rw es at (rw ed at (rw ea at (rw ex' at p')))

    pub second_fails : {u : Outcome} → (e'.state ≡ Number → ⊥) → u ≡ fails (state_of e'.state) e'.left → u ≡ operation_by α (outcome α t r) t op l g s d
    unfolding operation_by after
    second_fails q' i = goes e (after op) at q (stops e' (λ b s''. outcome_of (calculated α op e.number b) s'') at' q' i)

    pub combines : {z z' : ℤ} {u : Outcome} → e'.state ≡ Number → z ≡ e.number → z' ≡ e'.number → u ≡ outcome_of (calculated α op z z') e'.left
        → u ≡ operation_by α (outcome α t r) t op l g s d
    unfolding operation_by after
    combines q' ez ez' i =
        goes e (after op) at q (goes e' (λ b s''. outcome_of (calculated α op e.number b) s'') at' q' (rw ez at (rw ez' at i)))

  pub chooses : {y' : ℤ} {b s' d' : ℕ} {α' : Arithmetic} {u : Outcome} → e.state ≡ Number → y' ≡ e.number → b ≡ branch_of t l y' → s' ≡ e.left → d' ≡ d → α' ≡ α
      → u ≡ outcome α' t r b g s' d' → u ≡ choice_by (outcome α t r) t l g s d
  unfolding choice_by
  chooses q ey eb es ed ea i = goes e (λ y s'. outcome α t r (branch_of t l y) g s' d) at q (rw ey at (rw eb at (rw es at (rw ed at (rw ea at i)))))

-- ---- an expression

pub no_step : (α : Arithmetic) (t r : List ℤ) (l : ℕ) (g : Arguments) (s d : ℕ) {u : Outcome} → s ≡ 0 → u ≡ fails out_of_steps 0 → u ≡ outcome α t r l g s d
unfolding step_by
no_step α t r l g s d e i = i ∙ rw e (unrolled α t r l g 0 d)

pub entered : (α : Arithmetic) (t r : List ℤ) (l : ℕ) (g : Arguments) (s d : ℕ) {s' d' : ℕ} {α' : Arithmetic} {k : Clause} {u : Outcome} → (s ≡ 0 → ⊥) → s' ≡ s - 1
    → d' ≡ d → α' ≡ α → k ≡ clause_of (kind t l) → u ≡ entered_by α' (outcome α' t r) t r k l g s' d' → u ≡ outcome α t r l g s d
unfolding step_by
entered α t r l g zero d ne es ed ea ek e = absurd (ne refl)
entered α t r l g (suc s) d {s'} ne es ed ea ek e =
    let i : s' ≡ s = omega arith in
    rw i at (rw ed at (rw ea at (rw ek at e))) ∙ unrolled α t r l g (suc s) d

-- ---- a value

pub value_is : (α : Arithmetic) (t r : List ℤ) (v : ℕ) {x s d : ℕ} {α' : Arithmetic} {o : Outcome} → x ≡ field_b t v → s ≡ step_limit → d ≡ 0 → α' ≡ α
    → o ≡ outcome α' t r x nothing s d → o ≡ value_outcome α t r v
unfolding value_outcome
value_is α t r v ex es ed ea p = rw es at (rw ed at (rw ea at (rw ex at p)))

pub value_left : (α : Arithmetic) (t r : List ℤ) (v : ℕ) (e : Computed) → shown e ≡ value_outcome α t r v → e.left ≤ step_limit
value_left α t r v e p =
    subst (λ (n : ℕ). n ≤ step_limit) (ap (λ (u : Outcome). u.left) (sym p)) (left_most α t r v)

pub value_stored : (α : Arithmetic) (t r : List ℤ) (v : ℕ) (e : Computed) → shown e ≡ value_outcome α t r v
    → record { number = e.number; state = state_of e.state; steps = step_limit - e.left } ≡ evaluated α t r v
value_stored α t r v e p = ap value_of p
