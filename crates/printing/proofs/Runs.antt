-- What Run's reply says of the table, the plan and the results that it leaves, and of the print.
use mathlib.Core.Path.{◌≡◌, sym, ap, ◌∙◌}
use mathlib.Core.Bool.{true}
use mathlib.Core.List.{List, map}
use Prim.Native.Nat.{ℕ, ◌-◌, ◌*◌, ◌≤◌}
use native.Mathlib.Omega.{arith}
use borrow.Author.Tests.{le-leb}
use lib.IntN.{ℤ, pos}
use lib.ListN.{length, take, length-append, length-map}
use Rattle.std.specs.Prelude.{Ok}
use Rattle.cells.specs.Limits.{label_limit}
use Rattle.cells.specs.Cells.{zeros}
use Rattle.refusals.specs.Refusal.{or_else, Verdict, Fine}
use Rattle.refusals.proofs.OrElse.{both_fine}
use Rattle.lines.specs.Lines.{labels, head_bad}
use Rattle.lines.proofs.Heads.{headed}
use Rattle.order.specs.Order.{Proper, Answer, cycle, whole, mixed}
use Rattle.order.specs.Following.{labels_of}
use Rattle.order.specs.Rows16to18.{cycle_bad}
use Rattle.order.proofs.Following.{proper_list}
use Rattle.reading.specs.Read.{table_short, sheet_table, Reads, read_bad, table_of}
use Rattle.reading.specs.Name.{name_begin, name_size, name_part}
use Rattle.reading.proofs.Padding.{cell_padded}
use Rattle.reading.proofs.Accepted.{read_names}
use Rattle.planning.specs.PlanLength.{plan_length}
use Rattle.planning.specs.declared.Plan.{Plan}
use Rattle.calls.specs.Buffers.{plan_short, results_short, run_buffers}
use Rattle.calls.specs.Plan.{plan_of, answer_by, listed_by, length_of, is_answer, PlanReply}
use Rattle.calls.specs.Run.{run_bad, run_reply, run_table, run_plan}
use Rattle.calls.specs.Leaves.{RunLeaves}
use Rattle.calls.proofs.Rooms.{results_room}
use Rattle.calls.proofs.Answers.{answers_number, answers_fine, made_answers, made_length}
use Rattle.calls.proofs.Sheets.{planned_reads, kept}
use Rattle.printing.specs.Print.{name_field, print_by, print_with}
use Rattle.printing.specs.Writing.{NamesIn}

listed_length : (a : Answer) (p : ℕ) → length_of (answer_by Fine a) ≤ length (listed_by Fine a p)
listed_length (cycle v) p = omega arith
listed_length (whole o) p = omega (arith, length-append (map pos o) (zeros (p - length o)), length-map o pos)
listed_length (mixed o) p = omega (arith, length-append (map pos o) (zeros (p - length o)), length-map o pos)

-- the program's buffers are long enough for every sheet, so that row 4 finds nothing
pub long_enough : (s : List ℕ) → head_bad s ≡ Fine → run_buffers s (8 * label_limit) label_limit (3 * label_limit) ≡ Fine
unfolding table_short plan_short results_short
long_enough s e =
    let h = (headed s e).high in
    rw (le-leb (8 * labels s) (8 * label_limit) (omega arith), le-leb (labels s) label_limit (omega arith), le-leb (3 * labels s) (3 * label_limit) (omega arith))

-- ---- where it answers

module _ (s : List ℕ) (m p q : ℕ) (a : is_answer (run_reply s m p q) ≡ true) where
  pub run_fine : run_bad s m p q ≡ Fine
  unfolding run_reply
  run_fine = answers_fine (run_bad s m p q) (plan_of s) a

  parts : Reads s × (run_buffers s m p q ≡ Fine) × (cycle_bad (sheet_table s) (labels s) ≡ Fine)
  unfolding run_bad
  parts = planned_reads s (run_buffers s m p q) run_fine

  pub reads : Reads s
  reads = parts.0

  buffers : (table_short s m ≡ Fine) × (or_else (plan_short s p) (results_short s q) ≡ Fine)
  buffers = both_fine (table_short s m) _ parts.1

  read_fine : read_bad s m ≡ Fine
  unfolding read_bad
  read_fine = rw buffers.0 reads

  pub results_fit : 3 * labels s ≤ q
  results_fit = results_room s q (both_fine (plan_short s p) (results_short s q) buffers.1).1

  pub table_is : run_table s m p q ≡ table_of Fine s m
  unfolding run_table
  table_is = ap (λ (v : Verdict). table_of v s m) run_fine

  -- the name that is printed is what Name returns
  pub name_is : (v : ℕ) → v ≤ labels s → name_field s (run_table s m p q) v ≡ name_part s m (pos v)
  unfolding name_part name_begin name_size
  name_is v h =
      let k = m - 8 * labels s in
      rw (table_is, read_fine, le-leb v (labels s) h, cell_padded (sheet_table s) k v 1, cell_padded (sheet_table s) k v 2)

  -- the plan has as many labels as the reply says, and they are a proper order
  pub plan_long : length_of (run_reply s m p q) ≤ length (run_plan s m p q)
  unfolding run_reply run_plan
  plan_long = rw run_fine (listed_length (plan_of s) p)

  pub plan_proper : Proper (sheet_table s) (labels_of (take (length_of (run_reply s m p q)) (run_plan s m p q)))
  unfolding run_reply run_plan run_bad
  plan_proper =
      (proper_list _ _).0
      ((kept s (run_buffers s m p q) reads parts.1 p).proper (answers_number (run_reply s m p q) a))

-- ---- for the code: Run left the reply r, the table t, the plan o and the results u

module _ (s : List ℕ) (m p q : ℕ) (r : PlanReply) (t o u : List ℤ) (left : RunLeaves s m p q r t o u) where
  -- the reply is x
  module _ (x : PlanReply) (is : r ≡ x) where
    pub replied : run_reply s m p q ≡ x
    replied = sym left.reply ∙ is

    pub printed : print_by s x t o u ≡ print_with s m p q
    printed = rw (replied, left.table, left.plan, left.results)

  -- it is a plan
  module _ (made : Plan) (is : r ≡ Ok made) where
    answered : is_answer (run_reply s m p q) ≡ true
    answered = ap is_answer (replied (Ok made) is) ∙ made_answers made

    pub names_in_lem : NamesIn s t
    names_in_lem l =
        let k = m - 8 * labels s in
        rw (left.table ∙ table_is s m p q answered, cell_padded (sheet_table s) k l 1, cell_padded (sheet_table s) k l 2)
        (read_names s (reads s m p q answered) l)

    pub count_in : plan_length made ≤ length o
    count_in = rw (← made_length made, left.plan) (rw (replied (Ok made) is) at (plan_long s m p q answered))
