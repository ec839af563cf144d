-- How long a print can get: the line of column names, 36 bytes, and 1,024 lines of at most 48.
use mathlib.Core.Path.{◌≡◌, refl, ap, ◌∙◌}
use Rattle.std.specs.Prelude.{Ok, Err}
use mathlib.Core.Bool.{true}
use mathlib.Core.List.{List, [], ◌∷◌, ◌++◌}
use Prim.Native.Nat.{ℕ, ◌+◌, ◌-◌, ◌*◌, ◌≤◌}
use native.Mathlib.Omega.{arith}
use lib.IntN.{ℤ, nat_abs}
use lib.ListN.{length, take, length-append, length-take, length-drop}
use Rattle.cells.specs.Limits.{label_limit, number_limit, name_limit}
use Rattle.cells.specs.Characters.{newline, space}
use Rattle.kinds.specs.Kinds.{value_code}
use Rattle.cells.specs.Table.{kind, name_start, name_length}
use Rattle.cells.specs.Accepted.{Accepted}
use Rattle.lines.specs.Lines.{labels, arithmetic_of}
use Rattle.order.specs.LabelLists.{◌∈◌}
use Rattle.order.specs.Order.{NoCycle}
use Rattle.order.specs.Following.{labels_of}
use Rattle.order.proofs.Lists.{in_here, in_there}
use Rattle.order.proofs.Proper.{listed_value, proper_no_cycle}
use Rattle.order.proofs.Planned.{order_short}
use Rattle.refusals.specs.Rows.{row_number}
use Rattle.refusals.specs.Refusal.{Fine}
use Rattle.refusals.specs.declared.Refusal.{Refusal}
use Rattle.reading.specs.Read.{sheet_table, table_of}
use Rattle.reading.proofs.Padding.{cell_padded}
use Rattle.reading.proofs.Accepted.{read_accepted, read_short}
use Rattle.evaluation.specs.States.{last_state}
use Rattle.evaluation.specs.Results.{state_at, number_at, steps_at, stored}
use Rattle.evaluation.specs.Evaluation.{value_outcome, evaluated, step_limit}
use Rattle.evaluation.specs.declared.Value.{Value}
use Rattle.evaluation.proofs.Range.{Good, value_recorded}
use Rattle.numbers.specs.declared.Arithmetic.{Arithmetic}
use Rattle.figures.specs.Figures.{result_cells}
use Rattle.figures.proofs.Working.{value_label, figures_value, figures_stored}
use Rattle.figures.proofs.Early.{figures_recorded}
use Rattle.calls.specs.Plan.{plan_refusal, plan_place, length_of, is_answer, PlanReply}
use Rattle.calls.specs.Run.{run_reply, run_table, run_plan, run_results}
use Rattle.calls.specs.Leaves.{RunLeaves}
use Rattle.planning.specs.declared.Plan.{Plan}
use Rattle.planning.specs.declared.Plan.TheVariants.{Whole, Mixed}
use Rattle.numbers.specs.Numerals.{decimal, integer}
use Rattle.printing.specs.Print.{line_of, columns_line, refusal_line, whole_word, mixed_word, name_field, value_line, value_lines, refusal_print, print_by, print_with, print_bound}
use Rattle.printing.specs.Writing.{last_index, Wrote, PrintWritten}
use Rattle.printing.specs.declared.Printed.{Printed}
use Rattle.printing.proofs.Sizes.{decimal_length, integer_length}
use Rattle.printing.proofs.Runs.{run_fine, reads, results_fit, table_is, plan_proper, replied, printed}

-- ---- one value

-- what stands in its line
record Short (t r : List ℤ) (v : ℕ) : Type 0 where
  label : v ≤ label_limit
  name : name_length t v ≤ name_limit
  state : state_at r v ≤ last_state
  number : nat_abs (number_at r v) ≤ number_limit
  steps : steps_at r v ≤ step_limit

name_length_lem : (s : List ℕ) (t : List ℤ) (v : ℕ) → length (name_field s t v) ≤ name_length t v
name_length_lem s t v =
    let x = name_start t v in
    let y = name_length t v in
    omega (arith, length-drop x (take (x + y) s), length-take (x + y) s)

field_length : (f : List ℕ) (k : ℕ) (l : List ℕ) (a b : ℕ) → length f ≤ a → length l ≤ b → length (f ++ k ∷ l) ≤ a + 1 + b
field_length f k l a b h g = omega (arith, length-append f (k ∷ l))

line_length : (s : List ℕ) (t r : List ℤ) (word : List ℕ) (v : ℕ) → length word ≤ 5 → Short t r v → length (value_line s t r word v) ≤ 48
unfolding value_line
line_length s t r word v w h =
    field_length (decimal v) space _ 4 43 (decimal_length 3 v (omega (arith, h.label)))
    (field_length (name_field s t v) space _ name_limit 26 (omega (arith, name_length_lem s t v, h.name))
    (field_length word space _ 5 20 w
    (field_length (decimal (state_at r v)) space _ 1 18 (decimal_length 0 (state_at r v) (omega (arith, h.state)))
    (field_length (integer (number_at r v)) space _ 11 6 (integer_length 9 (number_at r v) (omega (arith, h.number)))
    (field_length (decimal (steps_at r v)) newline [] 5 0 (decimal_length 4 (steps_at r v) (omega (arith, h.steps))) (omega arith))))))

lines_length : (s : List ℕ) (t r : List ℤ) (word l : List ℕ) → length word ≤ 5 → ((v : ℕ) → v ∈ l → Short t r v) → length (value_lines s t r word l) ≤ 48 * length l
unfolding value_lines
lines_length s t r word [] w h = omega arith
lines_length s t r word (v ∷ l) w h =
    omega (
      arith,
      length-append (value_line s t r word v) (value_lines s t r word l),
      line_length s t r word v w (h v (in_here v l)),
      lines_length s t r word l w (λ x i. h x (in_there x v l i)),
    )

-- ---- a value of an accepted table without a cycle, with the results of Working out

module _ (α : Arithmetic) (t : List ℤ) (n m : ℕ) (ok : Accepted t n) (nc : NoCycle t) (fit : 3 * n ≤ m) where
  value_is : (v : ℕ) → kind t v ≡ value_code → stored (result_cells α t n m) v ≡ evaluated α t (result_cells α t n m) v
  value_is v k = figures_stored α t n ok m fit v ∙ figures_value α t n ok m fit nc v k

  value_good : (v : ℕ) → kind t v ≡ value_code → Good 1 (value_outcome α t (result_cells α t n m) v)
  value_good v k = value_recorded α t (result_cells α t n m) n ok v k (λ x j _. figures_recorded α t n ok nc m fit x j)

  -- its name is in a table w
  value_short : (w : List ℤ) (v : ℕ) → kind t v ≡ value_code → name_length w v ≤ name_limit → Short w (result_cells α t n m) v
  value_short w v k h =
      let e = value_is v k in
      let g = value_good v k in
      let x = ap (λ (y : Value). y.number) e in
      record {
        label = omega (arith, value_label t n ok v k, ok.few);
        name = h;
        state = omega (arith, ap (λ (y : Value). y.state) e, g.most);
        number = rw x g.ranged;
        steps = omega (arith, ap (λ (y : Value). y.steps) e);
      }

-- ---- the print of an answer

module _ (s : List ℕ) (m p q : ℕ) (a : is_answer (run_reply s m p q) ≡ true) where
  abbrev order : List ℕ
  order = labels_of (take (length_of (run_reply s m p q)) (run_plan s m p q))

  ok : Accepted (sheet_table s) (labels s)
  ok = read_accepted s (reads s m p q a)

  results_are : run_results s m p q ≡ result_cells (arithmetic_of s) (sheet_table s) (labels s) q
  unfolding run_results
  results_are = rw (run_fine s m p q a)

  all_short : (v : ℕ) → v ∈ order → Short (run_table s m p q) (run_results s m p q) v
  all_short v i =
      let o = plan_proper s m p q a in
      let k = listed_value o v i in
      let name : name_length (table_of Fine s m) v ≤ name_limit =
      rw (cell_padded (sheet_table s) (m - 8 * labels s) v 2) (read_short s (reads s m p q a) v k) in
      rw (table_is s m p q a, results_are)
      (value_short (arithmetic_of s) (sheet_table s) (labels s) q ok (proper_no_cycle o) (results_fit s m p q a) (table_of Fine s m) v k name)

  abbrev lines : List ℕ → List ℕ
  lines word = value_lines s (run_table s m p q) (run_results s m p q) word order

  answer_length : (word : List ℕ) → length word ≤ 5 → length (columns_line ++ lines word) ≤ print_bound
  unfolding columns_line
  answer_length word w =
      omega (
        arith,
        length-append columns_line (lines word),
        lines_length s (run_table s m p q) (run_results s m p q) word order w all_short,
        order_short (sheet_table s) (labels s) ok order (plan_proper s m p q a),
        ok.few,
      )

-- ---- the print of a refusal: two numbers of 64 bits

refusal_length : (row place : ℕ) → row ≤ last_index → place ≤ last_index → length (refusal_print row place) ≤ print_bound
unfolding refusal_line
refusal_length row place h g =
    omega (
      arith,
      length-append refusal_line (line_of (decimal row ∷ decimal place ∷ [])),
      field_length (decimal row) space (decimal place ++ newline ∷ []) 20 21 (decimal_length 19 row (omega arith))
          (field_length (decimal place) newline [] 20 0 (decimal_length 19 place (omega arith)) (omega arith)),
    )

-- ---- any print, by Run's reply x, whose numbers have 64 bits

module _ (s : List ℕ) (m p q : ℕ) where
  print_short : (x : PlanReply) → run_reply s m p q ≡ x → plan_refusal x ≤ last_index → plan_place x ≤ last_index → length (print_with s m p q) ≤ print_bound
  unfolding whole_word mixed_word
  print_short (Ok (Whole k)) e h g = rw e (rw e at (answer_length s m p q (ap is_answer e) whole_word (omega arith)))
  print_short (Ok (Mixed k)) e h g = rw e (rw e at (answer_length s m p q (ap is_answer e) mixed_word (omega arith)))
  print_short (Err z) e h g = rw e (refusal_length (row_number z.row) z.place h g)

  -- a plan is no refusal
  answer_zeros : (made : Plan) → (0 ≡ plan_refusal (Ok made)) × (0 ≡ plan_place (Ok made))
  answer_zeros (Whole k) = (refl, refl)
  answer_zeros (Mixed k) = (refl, refl)

  module _ (r : PlanReply) (t o u : List ℤ) (left : RunLeaves s m p q r t o u) where
    -- Run left the reply x, and its print was written
    print_written : (x : PlanReply) → r ≡ x → (out : List ℕ) (a : Printed) (w : List ℕ) → plan_refusal x ≤ last_index → plan_place x ≤ last_index
        → a.refusal ≡ plan_refusal x → a.place ≡ plan_place x → Wrote out 0 (print_by s x t o u) w a.length → PrintWritten s m p q out a w
    print_written x is out a w h g f i k =
        let e = replied s m p q r t o u left x is in
        record {
          refusal = rw e f;
          place = rw e i;
          short = print_short x e h g;
          wrote = rw (← printed s m p q r t o u left x is) k;
        }

    pub answer_written : (made : Plan) → r ≡ Ok made → (out w : List ℕ) (n : ℕ) → Wrote out 0 (print_by s (Ok made) t o u) w n
        → PrintWritten s m p q out (record { refusal = 0; place = 0; length = n }) w
    answer_written made is out w n k =
        let z = answer_zeros made in
        print_written (Ok made) is out _ w (omega (arith, z.0)) (omega (arith, z.1)) z.0 z.1 k

    pub refusal_written : (e : Refusal) → r ≡ Err e → (out w : List ℕ) (n : ℕ) → row_number e.row ≤ last_index → e.place ≤ last_index
        → Wrote out 0 (print_by s (Err e) t o u) w n → PrintWritten s m p q out (record { refusal = row_number e.row; place = e.place; length = n }) w
    refusal_written e is out w n h g k = print_written (Err e) is out _ w h g refl refl k
