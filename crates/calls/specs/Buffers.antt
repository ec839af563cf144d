-- Row 4 of document 01's table: "place 1: table below 8n cells; 2: plan below n; 3: results below 3n; lowest place first, only those
-- lent". The text is s; a table is lent with m cells, a plan with p and results with q.
use Rattle.std.specs.Prelude.{cond, List, ℕ, ◌*◌, leb}
use Rattle.refusals.specs.Rows.{buffers_row}
use Rattle.refusals.specs.Refusal.{or_else, Verdict, Fine, Refused}
use Rattle.lines.specs.Lines.{labels}
use Rattle.reading.specs.Read.{table_short}

unfoldable pub plan_short : List ℕ → ℕ → Verdict
plan_short s p = cond (leb (labels s) p) Fine (Refused buffers_row 2)

unfoldable pub results_short : List ℕ → ℕ → Verdict
results_short s q = cond (leb (3 * labels s) q) Fine (Refused buffers_row 3)

-- of those that Plan, Run and Follow are lent
abbrev pub plan_buffers : List ℕ → ℕ → ℕ → Verdict
plan_buffers s m p = or_else (table_short s m) (plan_short s p)

abbrev pub run_buffers : List ℕ → ℕ → ℕ → ℕ → Verdict
run_buffers s m p q = or_else (table_short s m) (or_else (plan_short s p) (results_short s q))

abbrev pub follow_buffers : List ℕ → ℕ → ℕ → Verdict
follow_buffers s m q = or_else (table_short s m) (results_short s q)
