-- What the functions between the rows and the calls promise. The text is s; a table is lent with m cells, a plan with p and results with q.
use Rattle.std.specs.Prelude.{◌≡◌, cond, List, ℕ, ◌*◌, leb, ℤ, length, take, Ok, Err}
use Rattle.cells.specs.Cells.{zeros}
use Rattle.refusals.specs.Rows.{buffers_row}
use Rattle.refusals.specs.Refusal.{or_else, reply_of, Verdict, Fine, Refused, Reply}
use Rattle.lines.specs.Lines.{labels, head_bad}
use Rattle.order.specs.Order as order
use Rattle.order.specs.Rows16to18.{cycle_bad, order_bad}
use Rattle.reading.specs.Read.{sheet_bad, sheet_table, table_of}
use Rattle.reading.specs.ReadStages.{Judged}
use Rattle.calls.specs.Plan.{plan_of, answer_by, listed_by, PlanReply}
use Rattle.calls.specs.Run.{results_by}

-- ---- rows 1 to 4

-- row 4 of a buffer of some cells, which is to have at least so many, at its place
abbrev pub short_by : ℕ → ℕ → ℕ → Verdict
short_by least cells place = cond (leb least cells) Fine (Refused buffers_row place)

-- the reply of a call in whose buffers row 4 finds b: the number of labels where rows 1 to 4 find nothing
abbrev pub head_reply : List ℕ → Verdict → Reply
head_reply s b = reply_of (or_else (head_bad s) b) (labels s)

-- ---- what is left where the rows find v: of Plan, of Run, and of Follow with an order list l

pub record PlanBy (v : Verdict) (s : List ℕ) (m p : ℕ) (r : PlanReply) (t o : List ℤ) : Type 0 where
  pub reply : r ≡ answer_by v (plan_of s)
  pub table : t ≡ table_of v s m
  pub plan : o ≡ listed_by v (plan_of s) p

pub record RunBy (v : Verdict) (s : List ℕ) (m p q : ℕ) (r : PlanReply) (t o u : List ℤ) : Type 0 where
  pub planned : PlanBy v s m p r t o
  pub results : u ≡ results_by v s q

pub record FollowBy (v : Verdict) (s : List ℕ) (l : List ℤ) (m q : ℕ) (r : Reply) (t u : List ℤ) : Type 0 where
  pub reply : r ≡ reply_of v (length l)
  pub table : t ≡ table_of v s m
  pub results : u ≡ results_by v s q

-- ---- row 16 of an accepted table

-- a buffer that a refusal clears
abbrev pub kept_by : Verdict → List ℤ → List ℤ
kept_by (Ok _) t = t
kept_by (Err e) t = zeros (length t)

-- the cells of n labels in a table
abbrev pub cells_to : ℕ → List ℤ → List ℤ
cells_to n w = take (8 * n) w

-- row 16 and the plan of n labels in a table w
pub record TablePlans (n : ℕ) (w : List ℤ) (p : ℕ) (r : PlanReply) (t o : List ℤ) : Type 0 where
  pub reply : r ≡ answer_by (cycle_bad (cells_to n w) n) (order.plan (cells_to n w) n)
  pub table : t ≡ kept_by (cycle_bad (cells_to n w) n) w
  pub plan : o ≡ listed_by (cycle_bad (cells_to n w) n) (order.plan (cells_to n w) n) p

-- ---- rows 5 to 16, and to 18, of a text that rows 1 to 4 let pass

unfoldable pub sheet_planned : List ℕ → Verdict
sheet_planned s = or_else (sheet_bad s) (cycle_bad (sheet_table s) (labels s))

abbrev pub SheetPlans : List ℕ → ℕ → ℕ → PlanReply → List ℤ → List ℤ → Type 0
SheetPlans s = PlanBy (sheet_planned s) s

abbrev pub SheetRuns : List ℕ → ℕ → ℕ → ℕ → PlanReply → List ℤ → List ℤ → List ℤ → Type 0
SheetRuns s = RunBy (sheet_planned s) s

-- of an order list l
unfoldable pub sheet_followed : List ℕ → List ℤ → Verdict
sheet_followed s l = or_else (sheet_bad s) (or_else (cycle_bad (sheet_table s) (labels s)) (order_bad (sheet_table s) (labels s) l))

abbrev pub RowsFollow : List ℕ → List ℤ → ℕ → Verdict → List ℤ → Type 0
RowsFollow s l m = Judged (sheet_followed s l) (table_of Fine s m)

abbrev pub SheetFollows : List ℕ → List ℤ → ℕ → ℕ → Reply → List ℤ → List ℤ → Type 0
SheetFollows s l = FollowBy (sheet_followed s l) s l
