-- Demand 3, whole.
use mathlib.Core.Path.{◌≡◌, sym, ap, ◌∙◌}
use mathlib.Core.Logic.{◌↔◌}
use mathlib.Core.List.{List}
use Prim.Native.Nat.{ℕ, ◌-◌, ◌*◌, ◌≤◌}
use lib.IntN.{ℤ}
use lib.ListN.{length, take}
use native.Mathlib.Omega.{arith}
use borrow.Author.Tests.{le-leb}
use Rattle.kinds.specs.Kinds.{value_code}
use Rattle.cells.specs.Cells.{zeros}
use Rattle.cells.specs.Table.{kind}
use Rattle.cells.specs.Accepted.{Accepted}
use Rattle.refusals.specs.Refusal.{refusal_of, Fine}
use Rattle.refusals.proofs.OrElse.{both_fine}
use Rattle.lines.specs.Lines.{labels, arithmetic_of}
use Rattle.order.specs.Order.{NoCycle}
use Rattle.order.specs.Following.{ProperList}
use Rattle.order.specs.Evaluating.{label_cells}
use Rattle.order.proofs.Proper.{proper_no_cycle}
use Rattle.reading.specs.Read.{table_short, sheet_table, Reads}
use Rattle.reading.specs.Keeps.{Keeps}
use Rattle.reading.proofs.Accepted.{read_accepted}
use Rattle.reading.proofs.Keeps.{keeps_read}
use Rattle.numbers.specs.declared.Arithmetic.{Arithmetic}
use Rattle.figures.specs.Figures.{figures, result_cells, Evaluated}
use Rattle.figures.proofs.Rows.{row_of}
use Rattle.figures.proofs.Working.{value_label, figures_solve, figures_only}
use Rattle.calls.specs.Buffers.{plan_short, results_short, plan_buffers, run_buffers, follow_buffers}
use Rattle.calls.specs.Plan.{planned_bad, plan_bad, plan_reply, plan_table, plan_cells, length_of}
use Rattle.calls.specs.Plan as plan
use Rattle.calls.specs.Run.{run_bad, run_reply, run_table, run_plan, run_results}
use Rattle.calls.specs.Follow.{follow_bad, follow_reply, follow_results}
use Rattle.calls.specs.Demand.{Demand3}
use Rattle.calls.proofs.Rooms.{results_room, run_rooms}
use Rattle.calls.proofs.Sheets.{reads_planned, kept}
use Rattle.calls.proofs.Followed.{proper_rows, accepts_exactly}

-- Follow's reply, of a sheet that reads with buffers long enough
pub follow_accepts : (s : List ℕ) (o : List ℤ) (m q : ℕ) → Reads s → follow_buffers s m q ≡ Fine → (refusal_of (follow_reply s o m q) ≡ 0) ↔ ProperList (sheet_table s) o
unfolding follow_reply follow_bad
follow_accepts s o m q e f =
    rw (reads_planned s (follow_buffers s m q) e f) (accepts_exactly (sheet_table s) (labels s) (read_accepted s e) o (length o))

-- "it answers as Plan does": with buffers long enough, Run and Plan find the same in any text, answer the same, and write the same table
-- and plan
pub run_as_plan : (s : List ℕ) (m p q : ℕ) → run_buffers s m p q ≡ Fine
    → (run_reply s m p q ≡ plan_reply s m p) × (run_table s m p q ≡ plan_table s m p) × (run_plan s m p q ≡ plan_cells s m p)
unfolding run_reply run_table run_plan run_bad plan_reply plan_table plan_cells plan_bad
run_as_plan s m p q e =
    let b = run_rooms s m p q e in
    let f : plan_buffers s m p ≡ Fine = rw b.0 b.1 in
    let same : planned_bad s (run_buffers s m p q) ≡ planned_bad s (plan_buffers s m p) = ap (planned_bad s) (e ∙ sym f) in
    (rw same, rw same, rw same)

module _ (s : List ℕ) (m p q m' q' : ℕ) (e : Reads s) (f : run_buffers s m p q ≡ Fine) (g : follow_buffers s m' q' ≡ Fine) where
  abbrev t : List ℤ
  t = sheet_table s

  abbrev n : ℕ
  n = labels s

  abbrev α : Arithmetic
  α = arithmetic_of s

  ok : Accepted t n
  ok = read_accepted s e

  long : plan_buffers s m p ≡ Fine
  long = let b = run_rooms s m p q f in rw b.0 b.1

  fit : 3 * n ≤ q'
  fit = results_room s q' (both_fine (table_short s m') (results_short s q') g).1

  -- ---- a proper order

  module _ (o : List ℤ) (l : ProperList t o) where
    no_cycle : NoCycle t
    no_cycle = proper_no_cycle l.proper

    run_results_lem : run_results s m p q ≡ result_cells α t n q
    unfolding run_results run_bad
    run_results_lem = rw (reads_planned s (run_buffers s m p q) e f, (proper_rows t n ok o l).0)

    follow_results_lem : follow_results s o m' q' ≡ result_cells α t n q'
    unfolding follow_results follow_bad
    follow_results_lem =
        let r = proper_rows t n ok o l in
        rw (reads_planned s (follow_buffers s m' q') e g, r.0, r.1)

    same : (v : ℕ) → kind t v ≡ value_code → label_cells 3 (follow_results s o m' q') v ≡ label_cells 3 (run_results s m p q) v
    same v k =
        let b = value_label t n ok v k in
        rw (follow_results_lem, run_results_lem)
        (row_of (figures α t n) n (zeros (q' - 3 * n)) v b.0 b.1 ∙ sym (row_of (figures α t n) n (zeros (q - 3 * n)) v b.0 b.1))

    evaluated : Evaluated α t (follow_results s o m' q')
    evaluated = rw follow_results_lem (figures_solve α t n ok q' fit no_cycle)

    only : (r : List ℤ) → length r ≡ q' → Evaluated α t r → r ≡ follow_results s o m' q'
    only r h w =
        let room : 3 * n ≤ length r = omega (arith, fit) in
        figures_only α t n ok no_cycle r room w ∙ ap (result_cells α t n) h ∙ sym follow_results_lem

  pub demand_3 : Demand3 s m p q m' q'
  unfolding plan_reply plan_cells plan_bad
  demand_3 = record {
    plan = kept s (plan_buffers s m p) e long p;
    accepts = λ o. follow_accepts s o m' q' e g;
    same = same;
    evaluated = evaluated;
    only = only;
  }

  -- so the plan of one day is followed on another, whatever the buffers' lengths
  pub plan_followed : plan.plan_refusal (plan_reply s m p) ≡ 0 → refusal_of (follow_reply s (take (length_of (plan_reply s m p)) (plan_cells s m p)) m' q') ≡ 0
  plan_followed h = (demand_3.accepts (take (length_of (plan_reply s m p)) (plan_cells s m p))).1 (demand_3.plan.proper h)

-- ---- of a sheet that keeps document 01's rules, said of its text alone

module _ (s : List ℕ) where
  long_run : (m p q : ℕ) → 8 * labels s ≤ m → labels s ≤ p → 3 * labels s ≤ q → run_buffers s m p q ≡ Fine
  unfolding table_short plan_short results_short
  long_run m p q a b c = rw (le-leb (8 * labels s) m a, le-leb (labels s) p b, le-leb (3 * labels s) q c)

  long_follow : (m q : ℕ) → 8 * labels s ≤ m → 3 * labels s ≤ q → follow_buffers s m q ≡ Fine
  unfolding table_short results_short
  long_follow m q a b = rw (le-leb (8 * labels s) m a, le-leb (3 * labels s) q b)

  pub keeps_demand : Keeps s → (m p q m' q' : ℕ) → 8 * labels s ≤ m → labels s ≤ p → 3 * labels s ≤ q → 8 * labels s ≤ m' → 3 * labels s ≤ q'
      → Demand3 s m p q m' q'
  keeps_demand k m p q m' q' a b c a' c' = demand_3 s m p q m' q' (keeps_read s k) (long_run m p q a b c) (long_follow m' q' a' c')
