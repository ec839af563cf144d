-- `Enters` misses nothing: a value's outcome depends on the answers that the R lines entered find, and on nothing else of the results.
use mathlib.Core.Path.{◌≡◌, refl, sym, ap, ◌∙◌}
use mathlib.Core.Bool.{Bool, true, false}
use mathlib.Core.List.{List}
use Prim.Native.Nat.{ℕ, zero, suc, ◌+◌, ◌≤◌}
use native.Mathlib.Omega.{arith}
use native.Mathlib.Nat.{le_refl}
use borrow.Author.Tests.{eqb-true, eqb-false}
use lib.Dec.{eqb}
use lib.IntN.{ℤ}
use Rattle.kinds.specs.Kinds.{clause_of}
use Rattle.cells.specs.Table.{kind, field_a, field_b, target}
use Rattle.numbers.specs.declared.Arithmetic.{Arithmetic}
use Rattle.evaluation.specs.States.{has_number}
use Rattle.evaluation.specs.Evaluation.{answer_at, on_number, unless_failed, depth_limit, step_limit, body_by, call_by, operation_by, choice_by, entered_by, step_by, outcome, nothing, value_outcome}
use Rattle.evaluation.specs.declared.Arguments.{Arguments}
use Rattle.kinds.specs.declared.Clause.{Clause}
use Rattle.kinds.specs.declared.Clause.TheVariants as clause
use Rattle.evaluation.specs.Evaluation.{Outcome}
use Rattle.evaluation.proofs.Steps.{unrolled, left_less}
use Rattle.figures.specs.Entered.{GoesBy, first_outcome, FirstNumber, Enters, itself, argument, body, first, second, test, branch, EntersRead}

unless_same : (o o' : Outcome) (k k' : ℤ → ℕ → Outcome) → o ≡ o' → (o.state ≡ has_number → k o.number o.left ≡ k' o.number o.left)
    → unless_failed o k ≡ unless_failed o' k'
unfolding on_number
unless_same o o' k k' e f = go (eqb o.state has_number) refl ∙ ap (λ (u : Outcome). unless_failed u k') e
  where
    go : (b : Bool) → eqb o.state has_number ≡ b → on_number b o k ≡ on_number b o k'
    go true q = f (eqb-true o.state has_number q)
    go false q = refl

module _ (α : Arithmetic) (t r r' : List ℤ) where
  -- every R entered finds the same answer in both results
  abbrev SameFound : ℕ → Arguments → ℕ → ℕ → Type 0
  SameFound l g s d = (x : ℕ) → GoesBy t clause.Read x → Enters α t r x l g s d → (q : ℕ) → answer_at r (target t x) q ≡ answer_at r' (target t x) q

  module _ (s : ℕ) (rec : (l : ℕ) (g : Arguments) (n d : ℕ) → n ≤ s → SameFound l g n d → outcome α t r l g n d ≡ outcome α t r' l g n d) (l : ℕ) (g : Arguments) (d : ℕ)
      (f : SameFound l g (suc s) d) where
    less : (first_outcome α t r l g s d).left ≤ s
    less = left_less α t r (field_a t l) g s d

    entered_same : (k : Clause) → GoesBy t k l → entered_by α (outcome α t r) t r k l g s d ≡ entered_by α (outcome α t r') t r' k l g s d
    unfolding entered_by call_by body_by operation_by choice_by
    entered_same clause.Number e = refl
    entered_same (clause.Argument i) e = refl
    entered_same clause.Read e = f l e itself s
    entered_same (clause.Call n) e =
        unless_same _ _ _ _ (rec (field_a t l) g s d (le_refl s) (λ x h i. f x h (argument l n e i))) (λ c. deeper c (eqb d depth_limit) refl)
      where
        deeper : FirstNumber α t r l g s d → (b : Bool) → eqb d depth_limit ≡ b
            → body_by b (outcome α t r) t l (first_outcome α t r l g s d).number (first_outcome α t r l g s d).left d ≡ body_by b (outcome α t r') t l (first_outcome α t r l g s d).number
            (first_outcome α t r l g s d).left d
        deeper c true q = refl
        deeper c false q = rec (field_b t (target t l)) _ _ (d + 1) less (λ x h i. f x h (body l n e c (eqb-false d depth_limit q) i))
    entered_same (clause.Operation op) e =
        unless_same _ _ _ _ (rec (field_a t l) g s d (le_refl s) (λ x h i. f x h (first l op e i)))
        (λ c. unless_same _ _ _ _ (rec (field_b t l) g _ d less (λ x h i. f x h (second l op e c i))) (λ _. refl))
    entered_same clause.Choice e =
        unless_same _ _ _ _ (rec (field_a t l) g s d (le_refl s) (λ x h i. f x h (test l e i)))
        (λ c. rec _ g _ d less (λ x h i. f x h (branch l e c i)))
    entered_same clause.None e = refl

  none : (l : ℕ) (g : Arguments) (d : ℕ) → outcome α t r l g 0 d ≡ outcome α t r' l g 0 d
  unfolding step_by
  none l g d = sym (unrolled α t r l g 0 d) ∙ unrolled α t r' l g 0 d

  -- by the steps left, which fall at each entry
  up_to : (b : ℕ) (l : ℕ) (g : Arguments) (s d : ℕ) → s ≤ b → SameFound l g s d → outcome α t r l g s d ≡ outcome α t r' l g s d
  unfolding step_by
  up_to zero l g zero d h f = none l g d
  up_to (suc b) l g zero d h f = none l g d
  up_to zero l g (suc s) d h f = absurd (omega arith)
  up_to (suc b) l g (suc s) d h f =
      sym (unrolled α t r l g (suc s) d)
      ∙ entered_same s (λ l g n d i q. up_to b l g n d (omega arith) q) l g d f (clause_of (kind t l)) refl
      ∙ unrolled α t r' l g (suc s) d

  pub entered_only : (v : ℕ) → ((x : ℕ) → EntersRead α t r v x → (q : ℕ) → answer_at r (target t x) q ≡ answer_at r' (target t x) q)
      → value_outcome α t r v ≡ value_outcome α t r' v
  unfolding value_outcome
  entered_only v f = up_to step_limit (field_b t v) nothing step_limit 0 (le_refl step_limit) (λ x h i. f x (record { read = h; entered = i }))
