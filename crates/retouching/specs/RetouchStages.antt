-- What the functions between the rows and Retouch promise. The text is s, the list of pairs ps.
use Rattle.std.specs.Prelude.{◌≡◌, List, ◌++◌, ℕ, ◌-◌, ◌*◌, ℤ, length, drop, Ok, Err}
use Rattle.cells.specs.Cells.{zeros}
use Rattle.numbers.specs.declared.Arithmetic.{Arithmetic}
use Rattle.refusals.specs.Refusal.{or_else, Verdict}
use Rattle.figures.specs.Figures.{result_cells}
use Rattle.redoing.specs.Pairs.{pair_count, with_pairs}
use Rattle.redoing.specs.Redone.{changes_of}
use Rattle.calls.specs.Plan.{plan_of, answer_by, listed_by, PlanReply}
use Rattle.calls.specs.CallStages.{sheet_planned, kept_by, cells_to}
use Rattle.reading.specs.Read.{sheet_table}
use Rattle.retouching.specs.Retouch.{pairs_bad, retouched_by, final_by, changes_by}

-- what is left where the rows find v
pub record RetouchBy (v : Verdict) (s : List ℕ) (ps : List ℤ) (m p q w : ℕ) (r : PlanReply) (t o u c : List ℤ) : Type 0 where
  pub reply : r ≡ answer_by v (plan_of s)
  pub table : t ≡ retouched_by v s ps m
  pub plan : o ≡ listed_by v (plan_of s) p
  pub results : u ≡ final_by v s ps q
  pub changes : c ≡ changes_by v s ps w

-- ---- rows 19 to 21 of n labels in a table t that has been run

-- what they leave of it where they find v, by an arithmetic α: the table, the results r in as many cells, and changes in w cells
abbrev pub table_by : Verdict → ℕ → List ℤ → List ℤ → List ℤ
table_by (Ok _) n ps t = with_pairs ps (pair_count ps) (cells_to n t) ++ drop (8 * n) t
table_by (Err e) n ps t = zeros (length t)

abbrev pub results_after : Arithmetic → Verdict → ℕ → List ℤ → List ℤ → ℕ → List ℤ
results_after α (Ok _) n ps t q = result_cells α (with_pairs ps (pair_count ps) (cells_to n t)) n q
results_after α (Err e) n ps t q = zeros q

abbrev pub changes_after : Arithmetic → Verdict → ℕ → List ℤ → List ℤ → ℕ → List ℤ
changes_after α (Ok _) n ps t w = changes_of α (cells_to n t) n ps (pair_count ps) ++ zeros (w - 3 * pair_count ps)
changes_after α (Err e) n ps t w = zeros w

pub record RunRetouches (α : Arithmetic) (n : ℕ) (ps t o : List ℤ) (q w : ℕ) (v : Verdict) (t' o' u c : List ℤ) : Type 0 where
  pub found : v ≡ pairs_bad (cells_to n t) ps
  pub table : t' ≡ table_by v n ps t
  pub plan : o' ≡ kept_by v o
  pub results : u ≡ results_after α v n ps t q
  pub changes : c ≡ changes_after α v n ps t w

-- ---- rows 5 to 21 of a text that rows 1 to 4 let pass
unfoldable pub sheet_retouched : List ℕ → List ℤ → Verdict
sheet_retouched s ps = or_else (sheet_planned s) (pairs_bad (sheet_table s) ps)

abbrev pub SheetRetouches : List ℕ → List ℤ → ℕ → ℕ → ℕ → ℕ → PlanReply → List ℤ → List ℤ → List ℤ → List ℤ → Type 0
SheetRetouches s ps = RetouchBy (sheet_retouched s ps) s ps
