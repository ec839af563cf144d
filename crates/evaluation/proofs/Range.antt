-- Every number met is in range, and 0 on failure, and every state is one of document 01's: from 0 on where stored results may still
-- be zeros, from 1 on where every value that is reached has been evaluated.
use mathlib.Core.Path.{◌≡◌, refl}
use mathlib.Core.Bool.{Bool, true, false, cond}
use mathlib.Core.List.{List}
use mathlib.Core.Logic.{inl}
use Prim.Native.Nat.{ℕ, zero, suc, ◌+◌, ◌≤◌}
use native.Mathlib.Omega.{arith}
use borrow.Author.Tests.{eqb-true}
use lib.Dec.{eqb}
use lib.IntN.{ℤ, pos, nat_abs}
use Rattle.kinds.specs.Kinds.{value_code, clause_of}
use Rattle.kinds.proofs.Codes.{value_body}
use Rattle.cells.specs.Table.{kind, field_b, target}
use Rattle.cells.specs.Accepted.{Accepted}
use Rattle.cells.specs.Reaches.{Reaches}
use Rattle.cells.specs.Limits.{number_limit}
use Rattle.numbers.specs.Arithmetic.{calculated}
use Rattle.kinds.specs.declared.Operation.{Operation}
use Rattle.std.specs.Prelude.{Result, Ok, Err}
use Rattle.numbers.specs.declared.Failure.{Failure}
use Rattle.numbers.specs.declared.Failure.TheVariants as calculation
use Rattle.numbers.proofs.Operations.{calculated_size}
use Rattle.numbers.specs.declared.Arithmetic.{Arithmetic}
use Rattle.evaluation.specs.States.{has_number, out_of_range, zero_divisor, out_of_steps, too_deep, last_state}
use Rattle.evaluation.specs.Results.{state_at, number_at, Recorded}
use Rattle.evaluation.specs.Evaluation.{Outcome, Way, gives, fails, on_number, unless_failed, answer_at, outcome_of, depth_limit, body_by, call_by, operation_by, choice_by, entered_by}
use Rattle.evaluation.specs.Evaluation.{step_by, with_fuel, outcome, nothing, step_limit, value_outcome}
use Rattle.evaluation.specs.Ready.{Ready, ExpressionAt}
use Rattle.evaluation.specs.declared.Arguments.{Arguments}
use Rattle.kinds.specs.declared.Clause.{Clause}
use Rattle.kinds.specs.declared.Clause.TheVariants as clause
use Rattle.evaluation.proofs.Closure.{Within, Closed, All, all_closed, From, from_closed, Leads, leads, body_within}

pub record Good (low : ℕ) (o : Outcome) : Type 0 where
  pub least : low ≤ o.state
  pub most : o.state ≤ last_state
  pub ranged : nat_abs o.number ≤ number_limit
  pub blank : (o.state ≡ has_number → ⊥) → o.number ≡ pos 0

module _ (α : Arithmetic) (low : ℕ) (small : low ≤ has_number) where
  gives_good : (y : ℤ) (s : ℕ) → nat_abs y ≤ number_limit → Good low (gives y s)
  gives_good y s h = record { least = small; most = omega arith; ranged = h; blank = λ f. absurd (f refl) }

  fails_good : (e s : ℕ) → low ≤ e → e ≤ last_state → Good low (fails e s)
  fails_good e s h k = record { least = h; most = k; ranged = omega arith; blank = λ f. refl }

  unless_good : (o : Outcome) (k : ℤ → ℕ → Outcome) → Good low o → ((y : ℤ) (m : ℕ) → nat_abs y ≤ number_limit → Good low (k y m)) → Good low (unless_failed o k)
  unfolding on_number
  unless_good o k h f = by (eqb o.state has_number)
    where
      by : (b : Bool) → Good low (on_number b o k)
      by true = f o.number o.left h.ranged
      by false = fails_good o.state o.left h.least h.most

  answer_good : (r : List ℤ) (l s : ℕ) → Recorded low r l → Good low (answer_at r l s)
  unfolding answer_at
  answer_good r l s h = by (eqb (state_at r l) has_number) refl
    where
      by : (b : Bool) → eqb (state_at r l) has_number ≡ b → Good low (cond b (gives (number_at r l) s) (fails (state_at r l) s))
      by true e = gives_good (number_at r l) s (h.ranged (eqb-true (state_at r l) has_number e))
      by false e = fails_good (state_at r l) s h.least h.most

  calculated_good : (op : Operation) (a b : ℤ) (s : ℕ) → Good low (outcome_of (calculated α op a b) s)
  unfolding outcome_of
  calculated_good op a b s = by (calculated α op a b) refl
    where
      by : (c : Result ℤ Failure) → calculated α op a b ≡ c → Good low (outcome_of c s)
      by (Ok z) e = gives_good z s (calculated_size α op a b z e)
      by (Err calculation.OutOfRange) e = fails_good out_of_range s (omega arith) (omega arith)
      by (Err calculation.ZeroDivisor) e = fails_good zero_divisor s (omega arith) (omega arith)

  module _ (t r : List ℤ) (n : ℕ) (w : Accepted t n) (D E : ℕ → Type 0) (c : Closed t D E) (recorded : (x : ℕ) → kind t x ≡ value_code → E x → Recorded low r x) where
    entered_good : (rec : Way) → ((l : ℕ) (g : Arguments) (s d : ℕ) → Within t n D l → nat_abs g.first ≤ number_limit → Good low (rec l g s d))
        → (k : Clause) (l : ℕ) (g : Arguments) (s d : ℕ) → nat_abs g.first ≤ number_limit → Leads t n w D E c k l → Good low (entered_by α rec t r k l g s d)
    unfolding Leads entered_by call_by body_by operation_by choice_by
    entered_good rec a clause.Number l g s d h q = gives_good _ s q
    entered_good rec a (clause.Argument i) l g s d h q = gives_good _ s h
    entered_good rec a clause.Read l g s d h q = answer_good r (target t l) s (recorded (target t l) q.0 q.1)
    entered_good rec a (clause.Call n) l g s d h q = unless_good _ _ (a _ g s d q.0 h) (λ y m i. by y m i (eqb d depth_limit))
      where
        by : (y : ℤ) (m : ℕ) → nat_abs y ≤ number_limit → (b : Bool) → Good low (body_by b rec t l y m d)
        by y m i true = fails_good too_deep m (omega arith) (omega arith)
        by y m i false = a _ _ m (d + 1) q.1 i
    entered_good rec a (clause.Operation op) l g s d h q =
        unless_good _ _ (a _ g s d q.0 h) (λ y m i. unless_good _ _ (a _ g m d q.1 h) (λ z k j. calculated_good op y z k))
    entered_good rec a clause.Choice l g s d h q = unless_good _ _ (a _ g s d q.0 h) (λ y m i. a _ g m d (q.1 y) h)
    entered_good rec a clause.None l g s d h q = absurd q

    within_good : (f : ℕ) (l : ℕ) (g : Arguments) (s d : ℕ) → Within t n D l → nat_abs g.first ≤ number_limit → Good low (with_fuel α f t r l g s d)
    unfolding with_fuel step_by
    within_good zero l g s d p h = fails_good out_of_steps 0 (omega arith) (omega arith)
    within_good (suc f) l g zero d p h = fails_good out_of_steps 0 (omega arith) (omega arith)
    within_good (suc f) l g (suc s) d p h =
        entered_good (with_fuel α f t r) (within_good f) (clause_of (kind t l)) l g s d h (leads t n w D E c l p)

    pub good : (l : ℕ) (g : Arguments) (s d : ℕ) → Within t n D l → nat_abs g.first ≤ number_limit → Good low (outcome α t r l g s d)
    unfolding outcome
    good l g s d p h = within_good s l g s d p h

-- ---- an expression, from results that are ready

pub in_range_lem : (α : Arithmetic) (t r : List ℤ) (q : Ready t r) (l : ℕ) (g : Arguments) (s d : ℕ) → ExpressionAt t q.count l → nat_abs g.first ≤ number_limit
    → Good 0 (outcome α t r l g s d)
in_range_lem α t r q l g s d h k =
    good α 0 (omega arith) t r q.count q.accepted All All (all_closed t) (λ x _ _. q.recorded x) l g s d (record { line = h; owned = tt }) k

-- ---- a value

-- where every value that v reaches has been evaluated, v has a state from 1 to 5 and a number in range
pub value_recorded : (α : Arithmetic) (t r : List ℤ) (n : ℕ) → Accepted t n → (v : ℕ) → kind t v ≡ value_code
    → ((x : ℕ) → kind t x ≡ value_code → Reaches t v x → Recorded 1 r x) → Good 1 (value_outcome α t r v)
unfolding value_outcome
value_recorded α t r n w v k h =
    good α 1 (omega arith) t r n w (From t v) (Reaches t v) (from_closed t v) h (field_b t v) nothing step_limit 0
    (body_within t n w (From t v) (Reaches t v) (from_closed t v) v (rw k value_body) (inl refl)) (omega arith)
