-- Locality: the outcome of value v depends on the lines of v and of the functions that v reaches, on the stored answers of the
-- values that v reaches, and on nothing else of the table or the results.
use mathlib.Core.Path.{◌≡◌, refl, sym, ap, ◌∙◌}
use mathlib.Core.Bool.{cond}
use mathlib.Core.List.{List}
use mathlib.Core.Logic.{◌⊎◌, inl, inr}
use Prim.Native.Nat.{ℕ, zero, suc, ◌≤◌}
use native.Mathlib.Omega.{arith}
use native.Mathlib.Nat.{le_refl}
use lib.IntN.{ℤ}
use Rattle.kinds.specs.Kinds.{value_code, clause_of}
use Rattle.kinds.proofs.Codes.{value_body}
use Rattle.cells.specs.Cells.{equals}
use Rattle.cells.specs.Table.{kind, field_a, field_b, field_c, owner, target, line_number}
use Rattle.cells.specs.Accepted.{Accepted}
use Rattle.cells.specs.Reaches.{Reaches}
use Rattle.numbers.specs.declared.Arithmetic.{Arithmetic}
use Rattle.evaluation.specs.Results.{state_at, number_at}
use Rattle.evaluation.specs.Evaluation.{answer_at, entered_by, step_by, outcome, nothing, step_limit, value_outcome}
use Rattle.evaluation.specs.declared.Arguments.{Arguments}
use Rattle.kinds.specs.declared.Clause.{Clause}
use Rattle.kinds.specs.declared.Clause.TheVariants as clause
use Rattle.evaluation.proofs.Steps.{Agreed, Asks, entered_agreed, unrolled, left_less}
use Rattle.evaluation.proofs.Closure.{Within, From, from_closed, Leads, leads, body_within}

-- what evaluation reads of line x is the same in two tables; its name and its owner are not read
pub record SameLine (t t' : List ℤ) (x : ℕ) : Type 0 where
  pub kinds : kind t x ≡ kind t' x
  pub first : field_a t x ≡ field_a t' x
  pub second : field_b t x ≡ field_b t' x
  pub third : field_c t x ≡ field_c t' x
  pub aim : target t x ≡ target t' x
  pub number : line_number t x ≡ line_number t' x

-- the stored answer of x is the same in two results; its steps are not read
pub record SameAnswer (r r' : List ℤ) (x : ℕ) : Type 0 where
  pub state : state_at r x ≡ state_at r' x
  pub number : number_at r x ≡ number_at r' x

-- x is v, a function that v reaches, or an expression of these
abbrev pub Concerns : List ℤ → ℕ → ℕ → Type 0
Concerns t v x = From t v x ⊎ From t v (owner t x)

module _ (α : Arithmetic) (t t' r r' : List ℤ) (n : ℕ) (w : Accepted t n) (v : ℕ) (lines : (x : ℕ) → Concerns t v x → SameLine t t' x)
    (answers : (x : ℕ) → kind t x ≡ value_code → Reaches t v x → SameAnswer r r' x) where
  abbrev Own : ℕ → Type 0
  Own x = Within t n (From t v) x

  same : (x : ℕ) → Own x → SameLine t t' x
  same x o = lines x (inr o.owned)

  same_answer : (x x' s : ℕ) → x ≡ x' → SameAnswer r r' x → answer_at r x s ≡ answer_at r' x' s
  unfolding answer_at
  same_answer x x' s e a = rw (← e, a.state, a.number)

  asks : (k : Clause) (l : ℕ) → Own l → Leads t n w (From t v) (Reaches t v) (from_closed t v) k l → Asks t t' r r' Own k l
  unfolding Asks Leads
  asks clause.Number l o q = (same l o).number
  asks (clause.Argument i) l o q = tt
  asks clause.Read l o q = λ s. same_answer (target t l) (target t' l) s (same l o).aim (answers (target t l) q.0 q.1)
  asks (clause.Call n) l o q =
      ((q.0, (same l o).first), (q.1, (lines (target t l) (inl q.3)).second ∙ ap (field_b t') (same l o).aim))
  asks (clause.Operation op) l o q = ((q.0, (same l o).first), (q.1, (same l o).second))
  asks clause.Choice l o q =
      ((q.0, (same l o).first), λ y. (q.1 y, λ i. cond (equals 0 y) ((same l o).third i) ((same l o).second i)))
  asks clause.None l o q = absurd q

  none : (l : ℕ) (g : Arguments) (d : ℕ) → Agreed 0 (outcome α t r l g 0 d) (outcome α t' r' l g 0 d)
  unfolding step_by
  none l g d =
      record { same = sym (unrolled α t r l g 0 d) ∙ unrolled α t' r' l g 0 d; less = left_less α t r l g 0 d }

  -- by the steps left, which fall at each entry
  up_to : (f : ℕ) (l : ℕ) (g : Arguments) (s d : ℕ) → Own l → s ≤ f → Agreed s (outcome α t r l g s d) (outcome α t' r' l g s d)
  unfolding step_by
  up_to zero l g zero d o h = none l g d
  up_to (suc f) l g zero d o h = none l g d
  up_to zero l g (suc s) d o h = absurd (omega arith)
  up_to (suc f) l g (suc s) d o h =
      let k : Clause = clause_of (kind t l) in
      let e = entered_agreed t t' r r' Own α (outcome α t r) (outcome α t' r') s (λ l g n d o i. up_to f l g n d o (omega arith)) k l g d
      (asks k l o (leads t n w (From t v) (Reaches t v) (from_closed t v) l o)) in
      record {
        same =
            sym (unrolled α t r l g (suc s) d) ∙ e.same ∙ ap (λ k. entered_by α (outcome α t' r') t' r' (clause_of k) l g s d) (same l o).kinds ∙ unrolled α t' r' l g (suc s) d;
        less = left_less α t r l g (suc s) d;
      }

  pub value_local : kind t v ≡ value_code → value_outcome α t r v ≡ value_outcome α t' r' v
  unfolding value_outcome
  value_local k =
      (up_to step_limit (field_b t v) nothing step_limit 0
      (body_within t n w (From t v) (Reaches t v) (from_closed t v) v (rw k value_body) (inl refl)) (le_refl step_limit)).same
      ∙ ap (λ x. outcome α t' r' x nothing step_limit 0) (lines v (inl (inl refl))).second

-- one table: the results count through the stored answers of the values that v reaches
pub results_local : (α : Arithmetic) (t r r' : List ℤ) (n : ℕ) → Accepted t n → (v : ℕ) → kind t v ≡ value_code
    → ((x : ℕ) → kind t x ≡ value_code → Reaches t v x → SameAnswer r r' x) → value_outcome α t r v ≡ value_outcome α t r' v
results_local α t r r' n w v k h =
    value_local α t t r r' n w v (λ x _. record { kinds = refl; first = refl; second = refl; third = refl; aim = refl; number = refl }) h k
