-- The loop down an order list: those listed so far have been evaluated, and what is left gives the whole list's results.
use mathlib.Core.Path.{◌≡◌, refl, sym, ap, ◌∙◌}
use mathlib.Core.List.{List, [], ◌∷◌, ◌++◌}
use Prim.Native.Nat.{ℕ, suc, ◌+◌, ◌*◌, ◌≤◌, ◌<◌}
use native.Mathlib.Omega.{arith}
use native.Mathlib.Numerals.{add-one}
use lib.IntN.{ℤ, pos}
use lib.ListN.{length, take, drop, take-append-drop}
use lib.Seq.{take-suc, take-take, drop-cons, get_or-take, length-take-le}
use Rattle.cells.specs.Cells.{nat_of, nat_at, zeros}
use Rattle.cells.specs.Accepted.{Accepted}
use Rattle.order.specs.LabelLists.{◌∈◌}
use Rattle.order.specs.Order.{Proper}
use Rattle.order.specs.Following.{ProperList, labels_of}
use Rattle.order.specs.Evaluating.{down}
use Rattle.order.proofs.Lists.{in_here, in_left, in_right}
use Rattle.order.proofs.Proper.{listed_value}
use Rattle.order.proofs.Following.{proper_list}
use Rattle.numbers.specs.declared.Arithmetic.{Arithmetic}
use Rattle.evaluation.specs.Evaluation.{evaluated}
use Rattle.evaluation.specs.Ready.{Ready, ReachedEvaluated, Evaluable}
use Rattle.evaluation.specs.Results.{Recorded}
use Rattle.evaluation.proofs.Stored.{store_length, ready_zeros, ready_stored}
use Rattle.figures.specs.Figures.{evaluate_into, result_cells}
use Rattle.figures.specs.Down.{Listed}
use Rattle.figures.proofs.Working.{down_figures}
use Rattle.figures.proofs.Early.{recorded_next}

-- ---- the labels before index i, and those from it on

labels_append : (a b : List ℤ) → labels_of (a ++ b) ≡ labels_of a ++ labels_of b
labels_append [] b = refl
labels_append (z ∷ a) b = ap (λ (l : List ℕ). nat_of z ∷ l) (labels_append a b)

abbrev pub left : List ℤ → ℕ → ℕ → List ℕ
left order k i = labels_of (drop i (take k order))

-- the labels before an index and those from it on
pub labels_cut : (order : List ℤ) (i j : ℕ) → j ≤ i → labels_of (take i order) ≡ labels_of (take j order) ++ left order i j
labels_cut order i j h =
    ap labels_of (sym (take-append-drop j (take i order)))
    ∙ labels_append (take j (take i order)) (drop j (take i order))
    ∙ ap (λ (l : List ℤ). labels_of l ++ left order i j) (take-take j i order h)

module _ (order : List ℤ) (k i : ℕ) (h : k ≤ length order) (j : i < k) where
  pub next : left order k i ≡ nat_at order i ∷ left order k (i + 1)
  next =
      let long : i < length (take k order) = omega (arith, length-take-le k order h) in
      rw (add-one, drop-cons (take k order) i (pos 0) long) (ap (λ (z : ℤ). nat_of z ∷ left order k (suc i)) (get_or-take k order i (pos 0) j))

  one_more_lem : labels_of (take (i + 1) order) ≡ labels_of (take i order) ++ nat_at order i ∷ []
  one_more_lem = rw (add-one, take-suc order i (pos 0) (omega arith)) (labels_append (take i order) _)

-- the same of a whole list
module _ (order : List ℤ) (i : ℕ) (j : i < length order) where
  next_whole : labels_of (drop i order) ≡ nat_at order i ∷ labels_of (drop (i + 1) order)
  next_whole = rw (add-one, drop-cons order i (pos 0) j) refl

  parts : labels_of order ≡ labels_of (take i order) ++ nat_at order i ∷ labels_of (drop (i + 1) order)
  parts =
      ap labels_of (sym (take-append-drop i order)) ∙ labels_append (take i order) (drop i order)
      ∙ ap (λ (l : List ℕ). labels_of (take i order) ++ l) next_whole

-- what stands before index j stands before any index above it
still_before : (order : List ℤ) {i j : ℕ} → j ≤ i → (x : ℕ) → x ∈ labels_of (take j order) → x ∈ labels_of (take i order)
still_before order {i} {j} h x m = rw (labels_cut order i j h) (in_left x (labels_of (take j order)) (left order i j) m)

-- ---- the loop

-- at index i, from results r₀ at index 0: those before it have been evaluated
pub record Going (α : Arithmetic) (t order : List ℤ) (r₀ r : List ℤ) (i : ℕ) : Type 0 where
  pub asked : Listed t r₀ order
  pub long : length r ≡ length r₀
  pub ready : Ready t r
  pub sofar : (x : ℕ) → x ∈ labels_of (take i order) → Recorded 1 r x
  pub rest : down (evaluate_into α t) (labels_of (drop i order)) r ≡ down (evaluate_into α t) (labels_of order) r₀

module _ (α : Arithmetic) (t order : List ℤ) (r₀ : List ℤ) where
  module _ {r : List ℤ} {i : ℕ} (g : Going α t order r₀ r i) where
    -- what a value that stands no later than index i reaches has been evaluated
    pub reached_before : {v j : ℕ} → v ≡ nat_at order j → j < length order → j ≤ i → ReachedEvaluated t r v
    reached_before {v} {j} e h u w q p = (g.sofar w (still_before order u w (g.asked.after j h w q (rw e at p)))).least

    -- so the value that the cell names can be evaluated
    pub turn_ready : i < length order → {v : ℕ} → v ≡ nat_at order i → Evaluable t r v
    turn_ready j {v} e = record { ready = g.ready; value = rw e (g.asked.values i j); reached = reached_before e j (omega arith) }

    pub turn : i < length order → {v : ℕ} {r' : List ℤ} → v ≡ nat_at order i → r' ≡ evaluate_into α t r v → Going α t order r₀ r' (i + 1)
    turn j {v} {r'} e q = let w : Evaluable t r v = turn_ready j e in record {
      asked = g.asked;
      long = ap length q ∙ store_length r v (evaluated α t r v) ∙ g.long;
      ready = rw q (ready_stored α t r v w);
      sofar = λ x m. rw q (recorded_next α t r v w (labels_of (take i order)) g.sofar x (rw e (rw (one_more_lem order (length order) i (omega arith) j) at m)));
      rest =
          ap (down (evaluate_into α t) (labels_of (drop (i + 1) order))) (q ∙ ap (evaluate_into α t r) e)
          ∙ sym (ap (λ (l : List ℕ). down (evaluate_into α t) l r) (next_whole order i j)) ∙ g.rest;
    }

-- a proper order and cleared results are what the loop asks for, and it comes to the figures
module _ (t order : List ℤ) (n m : ℕ) {r : List ℤ} (ok : Accepted t n) (fit : 3 * n ≤ m) (p : ProperList t order) (cleared : r ≡ zeros m) where
  proper : Proper t (labels_of order)
  proper = (proper_list t order).0 p

  pub listed : Listed t r order
  listed = record {
    ready = rw cleared (ready_zeros t n m ok fit);
    values =
        λ i j. listed_value proper (nat_at order i) (rw (parts order i j)
        (in_right (nat_at order i) (labels_of (take i order)) _ (in_here (nat_at order i) (labels_of (drop (i + 1) order)))));
    after = λ i j. proper.after (labels_of (take i order)) (nat_at order i) (labels_of (drop (i + 1) order)) (parts order i j);
  }

  pub settles : (α : Arithmetic) {r' : List ℤ} → r' ≡ down (evaluate_into α t) (labels_of order) r → r' ≡ result_cells α t n m
  settles α e = e ∙ ap (down (evaluate_into α t) (labels_of order)) cleared ∙ down_figures α t n ok m fit (labels_of order) proper
