-- The evaluator as an evaluation of `order`, and what its theorems then say: down any proper order one comes to the figures, and they
-- are the only results that satisfy "Working out".
use mathlib.Core.Path.{◌≡◌, refl, sym, ap, ◌∙◌}
use mathlib.Core.List.{List, [], ◌∷◌, ◌++◌, append_assoc, append-nil}
use Prim.Native.Nat.{ℕ, zero, suc, ◌+◌, ◌-◌, ◌*◌, ◌≤◌, ◌<◌}
use native.Mathlib.Omega.{arith}
use native.Mathlib.Decide.{ℕ_discrete}
use borrow.Author.Tests.{ne_eqb}
use lib.IntN.{ℤ}
use lib.ListN.{length, length-append}
use Rattle.kinds.specs.Kinds.{value_code}
use Rattle.cells.specs.Cells.{zeros}
use Rattle.cells.specs.Table.{kind}
use Rattle.cells.specs.Accepted.{Accepted}
use Rattle.cells.specs.Reaches.{Reaches}
use Rattle.order.specs.Order.{NoCycle, Proper, plan_order}
use Rattle.order.specs.Evaluating.{Evaluation, down, label_cells}
use Rattle.order.proofs.Lists.{split, in_here, in_right}
use Rattle.order.proofs.Tables.{kind_v, kind_label}
use Rattle.order.proofs.Proper.{listed_once, listed_value}
use Rattle.order.proofs.BlockPlan.{order_proper}
use Rattle.order.proofs.Planned.{order_short}
use Rattle.order.proofs.Evaluating.{run_solves}
use Rattle.order.proofs.Buffers.{row_own, row_other, only_cells}
use Rattle.numbers.specs.declared.Arithmetic.{Arithmetic}
use Rattle.evaluation.specs.declared.Value.{Value}
use Rattle.evaluation.specs.Results.{stored, store}
use Rattle.evaluation.specs.Evaluation.{value_of, evaluated}
use Rattle.evaluation.proofs.Local.{results_local}
use Rattle.evaluation.proofs.Stored.{store_length}
use Rattle.figures.specs.Figures.{blank, value_cells, results_of, after_rounds, figures, result_cells, Evaluated, evaluate_into}
use Rattle.figures.proofs.Rows.{same_stored, stored_row, stored_zeros, row_of, rows_same, zeros_buffer, length_zeros, buffer_length}

-- ---- the rows of results once a value is stored

pub store_own : (r : List ℤ) (l : ℕ) (v : Value) → 1 ≤ l → 3 * l ≤ length r → label_cells 3 (store r l v) l ≡ value_cells v
store_own r zero v h k = absurd (omega arith)
store_own r (suc l) v h k = row_own 3 l r (value_cells v) refl k

pub store_other : (r : List ℤ) (l : ℕ) (v : Value) (m : ℕ) → (m ≡ l → ⊥) → label_cells 3 (store r l v) m ≡ label_cells 3 r m
store_other r zero v m d = refl
store_other r (suc l) v m d = row_other 3 l m r (value_cells v) refl d

pub value_label : (t : List ℤ) (n : ℕ) → Accepted t n → (v : ℕ) → kind t v ≡ value_code → (1 ≤ v) × (v ≤ n)
value_label t n ok v k = kind_label t n ok v (omega arith)

module _ (α : Arithmetic) (t : List ℤ) (n : ℕ) (ok : Accepted t n) where
  -- a value's results depend on the rows of the values that it reaches
  pub value_rows : (r r' : List ℤ) (v : ℕ) → kind t v ≡ value_code → ((w : ℕ) → kind t w ≡ value_code → Reaches t v w → label_cells 3 r w ≡ label_cells 3 r' w)
      → evaluated α t r v ≡ evaluated α t r' v
  value_rows r r' v k h =
      ap value_of (results_local α t r r' n ok v k
      (λ w i j. let e = same_stored r r' w (h w i j) in record { state = ap (λ (x : Value). x.state) e; number = ap (λ (x : Value). x.number) e }))

  -- results in a buffer, three cells a label, as `order` asks for them
  abbrev pub working : Evaluation t (List ℤ) (List ℤ)
  working = record {
    Fits = λ r. 3 * n ≤ length r;
    stored = label_cells 3;
    result = λ r v. value_cells (evaluated α t r v);
    evaluate = evaluate_into α t;
    fits = λ r v k h. omega (arith, store_length r v (evaluated α t r v));
    own = λ r v k h. let b = value_label t n ok v k in store_own r v (evaluated α t r v) b.0 (omega (arith, b.1));
    other = λ r v w k h d. store_other r v (evaluated α t r v) w d;
    local = λ r r' v k f g h. ap value_cells (value_rows r r' v k h);
  }

  -- ---- a round

  round_value : (k v : ℕ) → kind t v ≡ value_code → after_rounds α t n (suc k) v ≡ evaluated α t (results_of (after_rounds α t n k) n) v
  unfolding after_rounds
  round_value k v e = rw (kind_v t v e)

  round_blank : (k l : ℕ) → (kind t l ≡ value_code → ⊥) → after_rounds α t n k l ≡ blank
  unfolding after_rounds
  round_blank zero l d = refl
  round_blank (suc k) l d = rw (ne_eqb (kind t l) value_code d)

  module _ (m : ℕ) (fit : 3 * n ≤ m) where
    fits_zeros : 3 * n ≤ length (zeros m)
    fits_zeros = omega (arith, length_zeros m)

    abbrev cells : List ℤ
    cells = result_cells α t n m

    figure_row : (v : ℕ) → kind t v ≡ value_code → label_cells 3 cells v ≡ value_cells (figures α t n v)
    figure_row v k = let b = value_label t n ok v k in row_of (figures α t n) n (zeros (m - 3 * n)) v b.0 b.1

    other_row : (l : ℕ) → (kind t l ≡ value_code → ⊥) → label_cells 3 cells l ≡ label_cells 3 (zeros m) l
    other_row l d =
        rows_same (figures α t n) (λ _. blank) n (zeros (m - 3 * n)) l (λ _ _. round_blank _ l d)
        ∙ ap (λ (r : List ℤ). label_cells 3 r l) (sym (zeros_buffer n m fit))

    module _ (o : List ℕ) (p : Proper t o) where
      abbrev end : List ℤ
      end = down (evaluate_into α t) o (zeros m)

      -- k rounds settle the first k values of the order
      rounds_settle : (k : ℕ) (a : List ℕ) (v : ℕ) (b : List ℕ) → o ≡ a ++ v ∷ b → length a < k → label_cells 3 end v ≡ value_cells (after_rounds α t n k v)
      rounds_settle zero a v b e h = absurd (omega arith)
      rounds_settle (suc k) a v b e h =
          run_solves t working o p (zeros m) fits_zeros v value
          ∙ ap value_cells (value_rows end (results_of (after_rounds α t n k) n ++ []) v value (λ w i r. earlier w i (split w a (p.after a v b e w i r)) (rounds_settle k))
          ∙ ap (λ (r : List ℤ). evaluated α t r v) (append-nil (results_of (after_rounds α t n k) n)) ∙ sym (round_value k v value))
        where
          value : kind t v ≡ value_code
          value = listed_value p v (rw e (in_right v a (v ∷ b) (in_here v b)))

          earlier : (w : ℕ) → kind t w ≡ value_code → (a₁ : List ℕ) × (a₂ : List ℕ) × (a ≡ a₁ ++ w ∷ a₂)
              → ((a : List ℕ) (v : ℕ) (b : List ℕ) → o ≡ a ++ v ∷ b → length a < k → label_cells 3 end v ≡ value_cells (after_rounds α t n k v))
              → label_cells 3 end w ≡ label_cells 3 (results_of (after_rounds α t n k) n ++ []) w
          earlier w i (a₁, a₂, q) older =
              let s : length a ≡ length a₁ + suc (length a₂) = ap length q ∙ length-append a₁ (w ∷ a₂) in
              let b₂ = value_label t n ok w i in
              older a₁ w (a₂ ++ v ∷ b) (e ∙ ap (λ (l : List ℕ). l ++ v ∷ b) q ∙ append_assoc a₁ (w ∷ a₂) (v ∷ b)) (omega arith)
              ∙ sym (row_of (after_rounds α t n k) n [] w b₂.0 b₂.1)

      -- and there are at most n
      end_figures : (v : ℕ) → kind t v ≡ value_code → label_cells 3 end v ≡ label_cells 3 cells v
      end_figures v k = at (split v o (omega (arith, listed_once p v k))) ∙ sym (figure_row v k)
        where
          at : (a : List ℕ) × (b : List ℕ) × (o ≡ a ++ v ∷ b) → label_cells 3 end v ≡ value_cells (figures α t n v)
          at (a, b, e) =
              let s : length o ≡ length a + suc (length b) = ap length e ∙ length-append a (v ∷ b) in
              rounds_settle n a v b e (omega (arith, order_short t n ok o p))

      proper_solve : Evaluated α t cells
      proper_solve = record {
        values = λ v k. sym (end_figures v k) ∙ run_solves t working o p (zeros m) fits_zeros v k ∙ ap value_cells (value_rows end cells v k (λ w i _. end_figures w i));
        others = λ l d. other_row l d ∙ ap (λ (i : ℕ). label_cells 3 (zeros i) l) (sym (buffer_length (figures α t n) n m fit));
      }

      -- what satisfies "Working out" is what one comes to down the order, from zeros
      down_only : (r : List ℤ) → length r ≡ m → Evaluated α t r → end ≡ r
      down_only r e w =
          only_cells t 3 (omega arith) working (λ r l. refl) (λ r v. store_length r v (evaluated α t r v)) o p (zeros m) r fits_zeros
          (omega arith) (e ∙ sym (length_zeros m)) w.values (λ l d. w.others l d ∙ ap (λ (i : ℕ). label_cells 3 (zeros i) l) e)

      -- whichever proper order one works down, from zeros, one comes to the figures
      pub down_figures : down (evaluate_into α t) o (zeros m) ≡ result_cells α t n m
      down_figures = down_only cells (buffer_length (figures α t n) n m fit) proper_solve

    -- the figures satisfy "Working out",
    pub figures_solve : NoCycle t → Evaluated α t (result_cells α t n m)
    figures_solve nc = proper_solve (plan_order t n) (order_proper t n ok nc)

    -- and label by label they are: of a value, what it comes to from the figures; of any other line, three zeros
    pub figures_value : NoCycle t → (v : ℕ) → kind t v ≡ value_code → figures α t n v ≡ evaluated α t (result_cells α t n m) v
    figures_value nc v k = sym (stored_row cells v (figures α t n v) (figure_row v k)) ∙ stored_row cells v (evaluated α t cells v) ((figures_solve nc).values v k)

    -- the buffer holds them
    pub figures_stored : (l : ℕ) → stored (result_cells α t n m) l ≡ figures α t n l
    figures_stored l = go (ℕ_discrete (kind t l) value_code)
      where
        go : Dec (kind t l ≡ value_code) → stored cells l ≡ figures α t n l
        go (yes k) = stored_row cells l (figures α t n l) (figure_row l k)
        go (no d) = same_stored cells (zeros m) l (other_row l d) ∙ stored_zeros m l ∙ sym (round_blank _ l d)

  -- and no other results satisfy "Working out"
  pub figures_only : NoCycle t → (r : List ℤ) → 3 * n ≤ length r → Evaluated α t r → r ≡ result_cells α t n (length r)
  figures_only nc r fit w =
      let p = order_proper t n ok nc in
      sym (down_only (length r) fit (plan_order t n) p r refl w) ∙ down_figures (length r) fit (plan_order t n) p
