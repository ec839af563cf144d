-- The definition obeys its own rules with no fuel in them (`unrolled`), and no step comes back (`left_less`). Both come from one
-- law: a rule gives one outcome for two sheets, and two ways to evaluate inside it, that agree on what the rule looks at.
use mathlib.Core.Path.{◌≡◌, refl, ap, ◌∙◌}
use mathlib.Core.Bool.{Bool, true, false, cond}
use mathlib.Core.List.{List}
use Prim.Native.Nat.{ℕ, zero, suc, ◌+◌, ◌≤◌}
use native.Mathlib.Omega.{arith}
use native.Mathlib.Nat.{le_refl}
use lib.Dec.{eqb}
use lib.IntN.{ℤ}
use Rattle.kinds.specs.Kinds.{clause_of}
use Rattle.cells.specs.Table.{kind, field_a, field_b, target, line_number}
use Rattle.numbers.specs.Arithmetic.{calculated}
use Rattle.std.specs.Prelude.{Result, Ok, Err}
use Rattle.numbers.specs.declared.Failure.{Failure}
use Rattle.numbers.specs.declared.Failure.TheVariants as calculation
use Rattle.numbers.specs.declared.Arithmetic.{Arithmetic}
use Rattle.evaluation.specs.States.{has_number, out_of_steps}
use Rattle.evaluation.specs.Results.{state_at, number_at}
use Rattle.evaluation.specs.Evaluation.{Outcome, Way, gives, fails, on_number, unless_failed, answer_at, outcome_of, step_limit, depth_limit, body_by, call_by, operation_by, branch_of}
use Rattle.evaluation.specs.Evaluation.{choice_by, entered_by, step_by, with_fuel, outcome, value_outcome, evaluated}
use Rattle.evaluation.specs.declared.Arguments.{Arguments}
use Rattle.kinds.specs.declared.Clause.{Clause}
use Rattle.kinds.specs.declared.Clause.TheVariants as clause

-- ---- two outcomes that are one, with at most s steps left

pub record Agreed (s : ℕ) (o o' : Outcome) : Type 0 where
  pub same : o ≡ o'
  pub less : o.left ≤ s

unless_agreed : {s : ℕ} {o o' : Outcome} {k k' : ℤ → ℕ → Outcome} → Agreed s o o' → ((y : ℤ) (m : ℕ) → m ≤ s → Agreed m (k y m) (k' y m))
    → Agreed s (unless_failed o k) (unless_failed o' k')
unfolding on_number
unless_agreed {s} {o} {o'} {k} {k'} a f =
    let b = by (eqb o.state has_number) in
    record { same = b.same ∙ ap (λ u. unless_failed u k') a.same; less = b.less }
  where
    by : (b : Bool) → Agreed s (on_number b o k) (on_number b o k')
    by true =
        let x = f o.number o.left a.less in
        record { same = x.same; less = omega (arith, x.less, a.less) }
    by false = record { same = refl; less = a.less }

-- a stored answer and a calculation take no step
answer_left : (r : List ℤ) (l s : ℕ) → (answer_at r l s).left ≡ s
unfolding answer_at
answer_left r l s = by (eqb (state_at r l) has_number)
  where
    by : (b : Bool) → (cond b (gives (number_at r l) s) (fails (state_at r l) s)).left ≡ s
    by true = refl
    by false = refl

calculated_left : (c : Result ℤ Failure) (s : ℕ) → (outcome_of c s).left ≡ s
unfolding outcome_of
calculated_left (Ok z) s = refl
calculated_left (Err calculation.OutOfRange) s = refl
calculated_left (Err calculation.ZeroDivisor) s = refl

-- ---- a rule

-- a label of P, the same in both sheets
abbrev pub Same : (ℕ → Type 0) → ℕ → ℕ → Type 0
Same P x x' = P x × (x ≡ x')

module _ (t t' r r' : List ℤ) (P : ℕ → Type 0) where
  -- what a line of a kind asks of two sheets and a set of labels
  unfoldable pub Asks : Clause → ℕ → Type 0
  Asks clause.Number l = line_number t l ≡ line_number t' l
  Asks (clause.Argument i) l = Unit {0}
  Asks clause.Read l = (s : ℕ) → answer_at r (target t l) s ≡ answer_at r' (target t' l) s
  Asks (clause.Call n) l = Same P (field_a t l) (field_a t' l) × Same P (field_b t (target t l)) (field_b t' (target t' l))
  Asks (clause.Operation op) l = Same P (field_a t l) (field_a t' l) × Same P (field_b t l) (field_b t' l)
  Asks clause.Choice l = Same P (field_a t l) (field_a t' l) × ((y : ℤ) → Same P (branch_of t l y) (branch_of t' l y))
  Asks clause.None l = Unit {0}

  module _ (α : Arithmetic) (rec rec' : Way) (s : ℕ) (a : (l : ℕ) (g : Arguments) (n d : ℕ) → P l → n ≤ s → Agreed n (rec l g n d) (rec' l g n d)) where
    at : (l l' : ℕ) (g : Arguments) (n d : ℕ) → Same P l l' → n ≤ s → Agreed n (rec l g n d) (rec' l' g n d)
    at l l' g n d p h =
        let b = a l g n d p.0 h in
        record { same = b.same ∙ ap (λ x. rec' x g n d) p.1; less = b.less }

    pub entered_agreed : (k : Clause) (l : ℕ) (g : Arguments) (d : ℕ) → Asks k l → Agreed s (entered_by α rec t r k l g s d) (entered_by α rec' t' r' k l g s d)
    unfolding Asks entered_by call_by body_by operation_by choice_by
    entered_agreed clause.Number l g d q = record { same = ap (λ y. gives y s) q; less = le_refl s }
    entered_agreed (clause.Argument i) l g d q = record { same = refl; less = le_refl s }
    entered_agreed clause.Read l g d q = record { same = q s; less = omega (arith, answer_left r (target t l) s) }
    entered_agreed (clause.Call n) l g d q =
        unless_agreed (at _ _ g s d q.0 (le_refl s)) (λ y m h. by y m h (eqb d depth_limit))
      where
        by : (y : ℤ) (m : ℕ) → m ≤ s → (b : Bool) → Agreed m (body_by b rec t l y m d) (body_by b rec' t' l y m d)
        by y m h true = record { same = refl; less = le_refl m }
        by y m h false = at _ _ _ m (d + 1) q.1 h
    entered_agreed (clause.Operation op) l g d q =
        unless_agreed (at _ _ g s d q.0 (le_refl s))
        (λ y m h. unless_agreed (at _ _ g m d q.1 h)
        (λ z n i. record { same = refl; less = omega (arith, calculated_left (calculated α op y z) n) }))
    entered_agreed clause.Choice l g d q =
        unless_agreed (at _ _ g s d q.0 (le_refl s)) (λ y m h. at _ _ g m d (q.1 y) h)
    entered_agreed clause.None l g d q = record { same = refl; less = le_refl s }

-- ---- fuel

abbrev all : ℕ → Type 0
all l = Unit {0}

asks : (t r : List ℤ) (k : Clause) (l : ℕ) → Asks t t r r all k l
unfolding Asks
asks t r clause.Number l = refl
asks t r (clause.Argument i) l = tt
asks t r clause.Read l = λ s. refl
asks t r (clause.Call n) l = ((tt, refl), (tt, refl))
asks t r (clause.Operation op) l = ((tt, refl), (tt, refl))
asks t r clause.Choice l = ((tt, refl), λ y. (tt, refl))
asks t r clause.None l = tt

module _ (α : Arithmetic) (t r : List ℤ) where
  none : {s : ℕ} → Agreed s (fails out_of_steps 0) (fails out_of_steps 0)
  none = record { same = refl; less = omega arith }

  -- fuel beyond the steps left changes nothing
  within_agreed : (f f' : ℕ) (l : ℕ) (g : Arguments) (s d : ℕ) → s ≤ f → s ≤ f' → Agreed s (with_fuel α f t r l g s d) (with_fuel α f' t r l g s d)
  unfolding with_fuel step_by
  within_agreed zero zero l g s d h h' = none
  within_agreed zero (suc f') l g zero d h h' = none
  within_agreed zero (suc f') l g (suc s) d h h' = absurd (omega arith)
  within_agreed (suc f) zero l g zero d h h' = none
  within_agreed (suc f) zero l g (suc s) d h h' = absurd (omega arith)
  within_agreed (suc f) (suc f') l g zero d h h' = none
  within_agreed (suc f) (suc f') l g (suc s) d h h' =
      let a = entered_agreed t t r r all α (with_fuel α f t r) (with_fuel α f' t r) s
      (λ l g n d p i. within_agreed f f' l g n d (omega arith) (omega arith)) (clause_of (kind t l)) l g d (asks t r (clause_of (kind t l)) l) in
      record { same = a.same; less = omega (arith, a.less) }

  pub left_less : (l : ℕ) (g : Arguments) (s d : ℕ) → (outcome α t r l g s d).left ≤ s
  unfolding outcome
  left_less l g s d = (within_agreed s s l g s d (le_refl s) (le_refl s)).less

  -- the rules, with no fuel
  pub unrolled : (l : ℕ) (g : Arguments) (s d : ℕ) → step_by α (outcome α t r) t r l g s d ≡ outcome α t r l g s d
  unfolding outcome with_fuel step_by
  unrolled l g zero d = refl
  unrolled l g (suc s) d =
      (entered_agreed t t r r all α (outcome α t r) (with_fuel α s t r) s
      (λ l g n d p i. within_agreed n s l g n d (le_refl n) i) (clause_of (kind t l)) l g d (asks t r (clause_of (kind t l)) l)).same

-- ---- the steps that a value takes

module _ (α : Arithmetic) (t r : List ℤ) (v : ℕ) where
  pub left_most : (value_outcome α t r v).left ≤ step_limit
  unfolding value_outcome
  left_most = left_less α t r (field_b t v) _ step_limit 0

  -- none is lost
  pub steps_exact : (evaluated α t r v).steps + (value_outcome α t r v).left ≡ step_limit
  steps_exact = omega (arith, left_most)
