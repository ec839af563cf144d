-- Document 01's Run: as Plan, with results lent with q cells.
use Rattle.std.specs.Prelude.{List, ℕ, ℤ, Ok, Err}
use Rattle.cells.specs.Cells.{zeros}
use Rattle.refusals.specs.Refusal.{Verdict}
use Rattle.lines.specs.Lines.{labels, arithmetic_of}
use Rattle.reading.specs.Read.{sheet_table, table_of}
use Rattle.figures.specs.Figures.{result_cells}
use Rattle.calls.specs.Buffers.{run_buffers}
use Rattle.calls.specs.Plan.{planned_bad, plan_of, answer_by, listed_by, PlanReply}

-- results in q cells, those of Working out by the sheet's own arithmetic; nothing but zeros where the call refuses
abbrev pub results_by : Verdict → List ℕ → ℕ → List ℤ
results_by (Ok _) s q = result_cells (arithmetic_of s) (sheet_table s) (labels s) q
results_by (Err e) s q = zeros q

unfoldable pub run_bad : List ℕ → ℕ → ℕ → ℕ → Verdict
run_bad s m p q = planned_bad s (run_buffers s m p q)

-- "it answers as Plan does"
unfoldable pub run_reply : List ℕ → ℕ → ℕ → ℕ → PlanReply
run_reply s m p q = answer_by (run_bad s m p q) (plan_of s)

unfoldable pub run_table : List ℕ → ℕ → ℕ → ℕ → List ℤ
run_table s m p q = table_of (run_bad s m p q) s m

unfoldable pub run_plan : List ℕ → ℕ → ℕ → ℕ → List ℤ
run_plan s m p q = listed_by (run_bad s m p q) (plan_of s) p

unfoldable pub run_results : List ℕ → ℕ → ℕ → ℕ → List ℤ
run_results s m p q = results_by (run_bad s m p q) s q
