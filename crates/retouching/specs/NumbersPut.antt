-- Order 4: "For every list of pairs, the final results are those of Run on the sheet with the numbers put in, row 1's length limit left
-- aside". The text is s, the list of pairs ps.
use Rattle.std.specs.Prelude.{◌≡◌, List, ℕ, zero, suc, ◌≤◌, ℤ, length}
use Rattle.cells.specs.Limits.{size_limit}
use Rattle.cells.specs.Table.{name_start, with_column}
use Rattle.refusals.specs.Refusal.{Fine}
use Rattle.lines.specs.Lines.{labels, tie_of}
use Rattle.reading.specs.Read.{sheet_table, table_of}
use Rattle.reading.specs.AnyLength.{ReadsAtAnyLength}
use Rattle.redoing.specs.Pairs.{pair_label, pair_number}
use Rattle.sheets.specs.NumberPut.{number_put}
use Rattle.calls.specs.Plan.{plan_of, answer_by, listed_by}
use Rattle.calls.specs.Run.{results_by, run_reply, run_table, run_plan, run_results}
use Rattle.retouching.specs.Retouch.{retouch_reply, retouch_table, retouch_plan, retouch_results}

-- "the sheet with the numbers put in": the text in whose N lines stand the decimal forms of the first k pairs' numbers, put in in turn
abbrev pub numbers_put : List ℕ → List ℤ → ℕ → List ℕ
numbers_put s ps zero = s
numbers_put s ps (suc k) = number_put (numbers_put s ps k) (pair_label ps (suc k)) (pair_number ps (suc k))

-- r is that text, of all pairs. What Retouch leaves, in buffers of m, p, q and w cells, where it answers:
pub record RunOfPut (s : List ℕ) (ps : List ℤ) (m p q w : ℕ) (r : List ℕ) : Type 0 where
  -- the text reads, row 1's length limit left aside, has as many labels and names the same tie rule;
  pub reads : ReadsAtAnyLength r
  pub count : labels r ≡ labels s
  pub tie : tie_of r ≡ tie_of s
  -- Retouch's reply, plan and results are those of this text,
  pub reply : retouch_reply s ps m p q w ≡ answer_by Fine (plan_of r)
  pub plan : retouch_plan s ps m p q w ≡ listed_by Fine (plan_of r) p
  pub results : retouch_results s ps m p q w ≡ results_by Fine r q
  -- and so is its table, but for the byte starts, which Retouch keeps as sent
  pub table : table_of Fine r m ≡ with_column 1 (name_start (sheet_table r)) (labels s) (retouch_table s ps m p q w)
  -- where the text has at most 65,536 bytes, they are what Run answers and leaves
  pub run_reply_lem : length r ≤ size_limit → run_reply r m p q ≡ retouch_reply s ps m p q w
  pub run_plan_lem : length r ≤ size_limit → run_plan r m p q ≡ retouch_plan s ps m p q w
  pub run_results_lem : length r ≤ size_limit → run_results r m p q ≡ retouch_results s ps m p q w
  pub run_table_lem : length r ≤ size_limit → run_table r m p q ≡ with_column 1 (name_start (sheet_table r)) (labels s) (retouch_table s ps m p q w)
