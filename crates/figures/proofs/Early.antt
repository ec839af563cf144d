-- No value is read before it has been evaluated, whichever proper order one works down.
use mathlib.Core.Path.{◌≡◌, refl, sym, ap, ◌∙◌, subst}
use mathlib.Core.List.{List, [], ◌∷◌, ◌++◌, append_assoc, append-nil}
use mathlib.Core.Logic.{◌⊎◌, inl, inr}
use Prim.Native.Nat.{ℕ, ◌*◌, ◌≤◌}
use native.Mathlib.Omega.{arith}
use lib.IntN.{ℤ}
use lib.ListN.{length}
use Rattle.kinds.proofs.Codes.{value_body}
use Rattle.kinds.specs.Kinds.{value_code}
use Rattle.cells.specs.Cells.{zeros}
use Rattle.cells.specs.Table.{kind, target}
use Rattle.cells.specs.Accepted.{Accepted}
use Rattle.cells.specs.Reaches.{Reaches}
use Rattle.order.specs.LabelLists.{◌∈◌}
use Rattle.order.specs.Order.{NoCycle, Proper, plan_order}
use Rattle.order.specs.Evaluating.{down}
use Rattle.order.proofs.Lists.{count_parts, in_here, in_left, in_right, in_append, in_single}
use Rattle.order.proofs.Proper.{listed_once, listed_value}
use Rattle.order.proofs.BlockPlan.{order_proper}
use Rattle.order.proofs.Evaluating.{run_append, run_fits, run_other}
use Rattle.numbers.specs.declared.Arithmetic.{Arithmetic}
use Rattle.evaluation.specs.Results.{stored, Recorded}
use Rattle.evaluation.specs.Ready.{Ready, Evaluable}
use Rattle.evaluation.specs.declared.Arguments.{Arguments}
use Rattle.kinds.specs.declared.Clause.{Clause}
use Rattle.kinds.specs.declared.Clause.TheVariants as clause
use Rattle.evaluation.proofs.Closure.{Within, From, from_closed, Leads, leads, body_within}
use Rattle.evaluation.proofs.Stored.{ready_zeros, evaluated_own, recorded_still, ready_stored}
use Rattle.figures.specs.Figures.{figures, result_cells, evaluate_into}
use Rattle.figures.specs.Entered.{GoesBy, first_outcome, Enters, itself, argument, body, first, second, test, branch, EntersRead, NeverEarly}
use Rattle.figures.proofs.Rows.{same_stored, length_zeros}
use Rattle.figures.proofs.Working.{working, down_figures, figures_stored}

-- ---- what is entered is of v, or of a function that v reaches

module _ (t : List ℤ) (n : ℕ) (ok : Accepted t n) (v : ℕ) where
  abbrev Own : ℕ → Type 0
  Own x = Within t n (From t v) x

  abbrev Leads-to : Clause → ℕ → Type 0
  Leads-to k l = Leads t n ok (From t v) (Reaches t v) (from_closed t v) k l

  -- what a line of v leads to, by its kind
  leading : (k : Clause) (l : ℕ) → GoesBy t k l → Own l → Leads-to k l
  leading k l e o = subst (λ (k : Clause). Leads-to k l) e (leads t n ok (From t v) (Reaches t v) (from_closed t v) l o)

  entered_own : (α : Arithmetic) (r : List ℤ) (x : ℕ) {l : ℕ} {g : Arguments} {s d : ℕ} → Enters α t r x l g s d → Own l → Own x
  unfolding Leads
  entered_own α r x itself o = o
  entered_own α r x (argument l k e i) o = entered_own α r x i (leading (clause.Call k) l e o).0
  entered_own α r x (body l k e f d i) o = entered_own α r x i (leading (clause.Call k) l e o).1
  entered_own α r x (first l op e i) o = entered_own α r x i (leading (clause.Operation op) l e o).0
  entered_own α r x (second l op e f i) o = entered_own α r x i (leading (clause.Operation op) l e o).1
  entered_own α r x (test l e i) o = entered_own α r x i (leading clause.Choice l e o).0
  entered_own α r x (branch l e f i) o = entered_own α r x i ((leading clause.Choice l e o).1 (first_outcome α t r l _ _ _).number)

  -- so an R that is entered reads a value that v reaches
  pub entered_read : (α : Arithmetic) (r : List ℤ) (x : ℕ) → kind t v ≡ value_code → EntersRead α t r v x → (kind t (target t x) ≡ value_code) × Reaches t v (target t x)
  unfolding Leads
  entered_read α r x k e =
      leading clause.Read x e.read (entered_own α r x e.entered (body_within t n ok (From t v) (Reaches t v) (from_closed t v) v (rw k value_body) (inl refl)))

-- ---- down a proper order

-- those of a have been evaluated and v may be: then v has been evaluated too
pub recorded_next : (α : Arithmetic) (t r : List ℤ) (v : ℕ) → Evaluable t r v → (a : List ℕ) → ((x : ℕ) → x ∈ a → Recorded 1 r x)
    → (x : ℕ) → x ∈ a ++ v ∷ [] → Recorded 1 (evaluate_into α t r v) x
recorded_next α t r v e a old x m = go (in_append x a (v ∷ []) m)
  where
    go : (x ∈ a) ⊎ (x ∈ v ∷ []) → Recorded 1 (evaluate_into α t r v) x
    go (inl i) = recorded_still α t r v e 1 (omega arith) x (old x i)
    go (inr i) = subst (λ (y : ℕ). Recorded 1 (evaluate_into α t r v) y) (sym (in_single x v i)) (evaluated_own α t r v e)

module _ (α : Arithmetic) (t : List ℤ) (n : ℕ) (ok : Accepted t n) (o : List ℕ) (p : Proper t o) where
  -- those of a have been evaluated, and then those of c too
  recorded_down : (c a b : List ℕ) → o ≡ a ++ (c ++ b) → (r : List ℤ) → Ready t r → ((x : ℕ) → x ∈ a → Recorded 1 r x)
      → (x : ℕ) → x ∈ a ++ c → Recorded 1 (down (evaluate_into α t) c r) x
  recorded_down [] a b e r q old x m = old x (subst (λ (l : List ℕ). x ∈ l) (append-nil a) m)
  recorded_down (v ∷ c) a b e r q old x m =
      recorded_down c (a ++ v ∷ []) b (e ∙ sym (append_assoc a (v ∷ []) (c ++ b))) (evaluate_into α t r v) (ready_stored α t r v turn)
      (recorded_next α t r v turn a old) x (subst (λ (l : List ℕ). x ∈ l) (sym (append_assoc a (v ∷ []) c)) m)
    where
      turn : Evaluable t r v
      turn = record {
        ready = q;
        value = listed_value p v (rw e (in_right v a (v ∷ (c ++ b)) (in_here v (c ++ b))));
        reached = λ w k i. (old w (p.after a v (c ++ b) e w k i)).least;
      }

  module _ (m : ℕ) (fit : 3 * n ≤ m) where
    fits : 3 * n ≤ length (zeros m)
    fits = omega (arith, length_zeros m)

    -- at v's turn those before it have been evaluated
    module _ (a : List ℕ) (v : ℕ) (b : List ℕ) (e : o ≡ a ++ v ∷ b) (x : ℕ) (i : EntersRead α t (down (evaluate_into α t) a (zeros m)) v x) where
      abbrev now : List ℤ
      now = down (evaluate_into α t) a (zeros m)

      value : kind t v ≡ value_code
      value = listed_value p v (rw e (in_right v a (v ∷ b) (in_here v b)))

      -- and an R that is entered reads one of them
      before : target t x ∈ a
      before = let q = entered_read t n ok v α now x value i in p.after a v b e (target t x) q.0 q.1

      finds_answer : Recorded 1 now (target t x)
      finds_answer = recorded_down a [] (v ∷ b) e (zeros m) (ready_zeros t n m ok fit) (λ y j. absurd (omega arith)) (target t x) before

      -- what it finds are its target's figures
      pub finds_figures : stored (down (evaluate_into α t) a (zeros m)) (target t x) ≡ figures α t n (target t x)
      finds_figures =
          sym (same_stored (down (evaluate_into α t) (v ∷ b) now) now (target t x) (run_other t (working α t n ok) (v ∷ b) back (target t x) later now here))
          ∙ ap (λ (r : List ℤ). stored r (target t x)) (sym (ap (λ (l : List ℕ). down (evaluate_into α t) l (zeros m)) e ∙ run_append t (working α t n ok) a (v ∷ b) (zeros m))
          ∙ down_figures α t n ok m fit o p)
          ∙ figures_stored α t n ok m fit (target t x)
        where
          front : (y : ℕ) → y ∈ a → kind t y ≡ value_code
          front y j = listed_value p y (rw e (in_left y a (v ∷ b) j))

          back : (y : ℕ) → y ∈ v ∷ b → kind t y ≡ value_code
          back y j = listed_value p y (rw e (in_right y a (v ∷ b) j))

          here : 3 * n ≤ length now
          here = run_fits t (working α t n ok) a front (zeros m) fits

          later : target t x ∈ v ∷ b → ⊥
          later j = omega (arith, before, listed_once p (target t x) (back (target t x) j), count_parts (target t x) a (v ∷ b) e)

    pub never_early : NeverEarly α t o (zeros m)
    never_early = finds_answer

    -- once all have been evaluated, every value has a state from 1 to 5
    end_recorded : (v : ℕ) → kind t v ≡ value_code → Recorded 1 (result_cells α t n m) v
    end_recorded v k =
        subst (λ (r : List ℤ). Recorded 1 r v) (down_figures α t n ok m fit o p)
        (recorded_down o [] [] (sym (append-nil o)) (zeros m) (ready_zeros t n m ok fit) (λ y j. absurd (omega arith)) v (omega (arith, listed_once p v k)))

pub figures_recorded : (α : Arithmetic) (t : List ℤ) (n : ℕ) → Accepted t n → NoCycle t → (m : ℕ) → 3 * n ≤ m → (v : ℕ) → kind t v ≡ value_code
    → Recorded 1 (result_cells α t n m) v
figures_recorded α t n ok nc m fit v k = end_recorded α t n ok (plan_order t n) (order_proper t n ok nc) m fit v k
