-- Run works down the plan, and Follow down the list it accepts, and no value is read before it has been evaluated.
use mathlib.Core.Path.{◌≡◌, refl, sym, ◌∙◌}
use Rattle.std.specs.Prelude.{Ok, Err}
use mathlib.Core.List.{List}
use Prim.Native.Nat.{ℕ, ◌*◌, ◌≤◌}
use native.Mathlib.Omega.{arith}
use lib.IntN.{ℤ}
use Rattle.cells.specs.Accepted.{Accepted}
use Rattle.refusals.specs.Refusal.{Verdict, Fine}
use Rattle.refusals.proofs.OrElse.{both_fine}
use Rattle.lines.specs.Lines.{labels, arithmetic_of}
use Rattle.order.specs.Order.{Proper, Answer, order_of}
use Rattle.order.specs.Following.{labels_of}
use Rattle.order.specs.Rows16to18.{order_bad}
use Rattle.order.proofs.Following.{proper_list}
use Rattle.reading.specs.Read.{table_short, sheet_table}
use Rattle.reading.proofs.Accepted.{read_accepted}
use Rattle.reading.proofs.Stage.{answered}
use Rattle.numbers.specs.declared.Arithmetic.{Arithmetic}
use Rattle.figures.specs.Figures.{result_cells}
use Rattle.figures.proofs.Working.{down_figures}
use Rattle.figures.proofs.Early.{never_early}
use Rattle.calls.specs.Buffers.{results_short, run_buffers, follow_buffers}
use Rattle.calls.specs.Plan.{planned_bad, plan_of, answer_by, whole_or_mixed}
use Rattle.calls.specs.Run.{results_by, run_bad, run_reply, run_results}
use Rattle.calls.specs.Follow.{follow_bad, follow_reply, follow_results}
use Rattle.calls.specs.Demand.{EvaluatedDown}
use Rattle.calls.proofs.Rooms.{results_room, run_rooms}
use Rattle.calls.proofs.Sheets.{planned_reads}
use Rattle.calls.proofs.Followed.{planned_proper, order_proper}

-- only where nothing is found there is an order
ordered_fine : (v : Verdict) (a : Answer) → 1 ≤ whole_or_mixed (answer_by v a) → v ≡ Fine
ordered_fine (Ok _) a h = refl
ordered_fine (Err e) a h = absurd (omega arith)

evaluated_down : (α : Arithmetic) (t : List ℤ) (n : ℕ) → Accepted t n → (o : List ℕ) → Proper t o → (q : ℕ) → 3 * n ≤ q → (u : List ℤ) → u ≡ result_cells α t n q
    → EvaluatedDown α t o q u
evaluated_down α t n ok o p q fit u e = record { reached = e ∙ sym (down_figures α t n ok q fit o p); never = never_early α t n ok o p q fit }

module _ (s : List ℕ) (m : ℕ) where
  pub run_never_early : (p q : ℕ) → 1 ≤ whole_or_mixed (run_reply s m p q) → EvaluatedDown (arithmetic_of s) (sheet_table s) (order_of (plan_of s)) q (run_results s m p q)
  unfolding run_reply run_results run_bad plan_of
  run_never_early p q h =
      let f = ordered_fine (planned_bad s (run_buffers s m p q)) (plan_of s) h in
      let r = planned_reads s (run_buffers s m p q) f in
      let ok = read_accepted s r.0 in
      let proper = planned_proper (sheet_table s) (labels s) ok r.2 in
      let room = results_room s q (run_rooms s m p q r.1).2 in
      evaluated_down (arithmetic_of s) (sheet_table s) (labels s) ok (order_of (plan_of s)) proper q room (results_by (planned_bad s (run_buffers s m p q)) s q) (rw f)

  pub follow_never_early : (o : List ℤ) (q k : ℕ) → follow_reply s o m q ≡ Ok k → EvaluatedDown (arithmetic_of s) (sheet_table s) (labels_of o) q (follow_results s o m q)
  unfolding follow_reply follow_results follow_bad
  follow_never_early o q k h =
      let f = (answered (follow_bad s o m q) _ k h).0 in
      let g = rows f in
      let r = planned_reads s (follow_buffers s m q) g.0 in
      let ok = read_accepted s r.0 in
      let b = both_fine (table_short s m) (results_short s q) r.1 in
      let proper = (proper_list (sheet_table s) o).0 (order_proper (sheet_table s) (labels s) ok o g.1) in
      evaluated_down (arithmetic_of s) (sheet_table s) (labels s) ok (labels_of o) proper q (results_room s q b.1) (results_by (follow_bad s o m q) s q) (rw f)
    where
      rows : follow_bad s o m q ≡ Fine → (planned_bad s (follow_buffers s m q) ≡ Fine) × (order_bad (sheet_table s) (labels s) o ≡ Fine)
      rows e = both_fine (planned_bad s (follow_buffers s m q)) (order_bad (sheet_table s) (labels s) o) e
