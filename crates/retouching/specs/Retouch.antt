-- Order 4's Retouch: the text s and a list of pairs ps; a table is lent with m cells, a plan with p, results with q and changes, the reply
-- buffer, with w.
use Rattle.std.specs.Prelude.{◌≡◌, Bool, cond, ◌&&◌, List, ◌++◌, ℕ, ◌-◌, ◌*◌, ◌%◌, eqb, leb, ℤ, length, Ok, Err, Option, Some, None}
use Rattle.refusals.specs.declared.Row.{Row}
use Rattle.kinds.specs.Kinds.{number_code}
use Rattle.cells.specs.Cells.{zeros}
use Rattle.cells.specs.Limits.{pair_limit}
use Rattle.cells.specs.Table.{kind}
use Rattle.numbers.specs.Range.{in_range}
use Rattle.refusals.specs.Rows.{buffers_row, pairs_row, pair_label_row, pair_number_row}
use Rattle.refusals.specs.Refusal.{or_else, first_bad, Verdict, Fine, Refused}
use Rattle.lines.specs.Lines.{labels, arithmetic_of}
use Rattle.reading.specs.Read.{sheet_table, Reads}
use Rattle.figures.specs.Figures.{result_cells}
use Rattle.redoing.specs.Pairs.{pair_count, pair_label, pair_number, with_pairs}
use Rattle.redoing.specs.Redone.{changes_of}
use Rattle.calls.specs.Buffers.{run_buffers}
use Rattle.calls.specs.Plan.{planned_bad, plan_of, answer_by, listed_by, PlanReply}
use Rattle.calls.specs.Demand.{PlanKept}

-- ---- refusals

-- "A reply buffer below three cells a pair is 4, place 4, an odd last cell not counted"
unfoldable pub changes_short : List ℤ → ℕ → Verdict
changes_short ps w = cond (leb (3 * pair_count ps) w) Fine (Refused buffers_row 4)

abbrev pub retouch_buffers : List ℕ → List ℤ → ℕ → ℕ → ℕ → ℕ → Verdict
retouch_buffers s ps m p q w = or_else (run_buffers s m p q) (changes_short ps w)

-- "19 after 16, place 0, an odd list or above 1,024 pairs"
abbrev pub whole_pairs : List ℤ → Bool
whole_pairs ps = eqb (length ps % 2) 0 && leb (pair_count ps) pair_limit

unfoldable pub list_bad : List ℤ → Verdict
list_bad ps = cond (whole_pairs ps) Fine (Refused pairs_row 0)

-- "then pair by pair, place the pair from 1: 20, a label that is no N line; 21, a number out of range"
unfoldable pub pair_bad : List ℤ → List ℤ → ℕ → Option Row
pair_bad t ps k =
    cond (eqb (kind t (pair_label ps k)) number_code) (cond (in_range (pair_number ps k)) None (Some pair_number_row)) (Some pair_label_row)

unfoldable pub pairs_bad : List ℤ → List ℤ → Verdict
pairs_bad t ps = or_else (list_bad ps) (first_bad (pair_bad t ps) 1 (pair_count ps))

-- "Refusals besides Run's": rows 1 to 16, then 19 to 21
unfoldable pub retouch_bad : List ℕ → List ℤ → ℕ → ℕ → ℕ → ℕ → Verdict
retouch_bad s ps m p q w = or_else (planned_bad s (retouch_buffers s ps m p q w)) (pairs_bad (sheet_table s) ps)

-- ---- what the call leaves where its rows find v; where it refuses, nothing but zeros

-- the sheet's table with the numbers put in
unfoldable pub retouched : List ℕ → List ℤ → List ℤ
retouched s ps = with_pairs ps (pair_count ps) (sheet_table s)

-- "table and plan are Run's, but cell a shows each new number"
abbrev pub retouched_by : Verdict → List ℕ → List ℤ → ℕ → List ℤ
retouched_by (Ok _) s ps m = retouched s ps ++ zeros (m - 8 * labels s)
retouched_by (Err e) s ps m = zeros m

-- "the final results": those of Working out for that table, by the sheet's own arithmetic
abbrev pub final_by : Verdict → List ℕ → List ℤ → ℕ → List ℤ
final_by (Ok _) s ps q = result_cells (arithmetic_of s) (retouched s ps) (labels s) q
final_by (Err e) s ps q = zeros q

-- three cells a pair: redone, failing, steps
abbrev pub changes_by : Verdict → List ℕ → List ℤ → ℕ → List ℤ
changes_by (Ok _) s ps w = changes_of (arithmetic_of s) (sheet_table s) (labels s) ps (pair_count ps) ++ zeros (w - 3 * pair_count ps)
changes_by (Err e) s ps w = zeros w

-- "It answers as Run does"
unfoldable pub retouch_reply : List ℕ → List ℤ → ℕ → ℕ → ℕ → ℕ → PlanReply
retouch_reply s ps m p q w = answer_by (retouch_bad s ps m p q w) (plan_of s)

unfoldable pub retouch_table : List ℕ → List ℤ → ℕ → ℕ → ℕ → ℕ → List ℤ
retouch_table s ps m p q w = retouched_by (retouch_bad s ps m p q w) s ps m

unfoldable pub retouch_plan : List ℕ → List ℤ → ℕ → ℕ → ℕ → ℕ → List ℤ
retouch_plan s ps m p q w = listed_by (retouch_bad s ps m p q w) (plan_of s) p

unfoldable pub retouch_results : List ℕ → List ℤ → ℕ → ℕ → ℕ → ℕ → List ℤ
retouch_results s ps m p q w = final_by (retouch_bad s ps m p q w) s ps q

unfoldable pub retouch_changes : List ℕ → List ℤ → ℕ → ℕ → ℕ → ℕ → List ℤ
retouch_changes s ps m p q w = changes_by (retouch_bad s ps m p q w) s ps w

-- all that Retouch leaves: the reply r, and every cell of the table t, the plan o, the results u and the changes c
pub record RetouchLeaves (s : List ℕ) (ps : List ℤ) (m p q w : ℕ) (r : PlanReply) (t o u c : List ℤ) : Type 0 where
  pub reply : r ≡ retouch_reply s ps m p q w
  pub table : t ≡ retouch_table s ps m p q w
  pub plan : o ≡ retouch_plan s ps m p q w
  pub results : u ≡ retouch_results s ps m p q w
  pub changes : c ≡ retouch_changes s ps m p q w
  -- demand 3's promise of Plan, where nothing is wrong with the list of pairs
  pub kept : Reads s → retouch_buffers s ps m p q w ≡ Fine → pairs_bad (sheet_table s) ps ≡ Fine → PlanKept (sheet_table s) r o
