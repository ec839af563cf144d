-- Document 01's Plan: the text s, a table lent with m cells and a plan lent with p.
use Rattle.std.specs.Prelude.{Bool, true, false, List, ◌++◌, map, ℕ, ◌-◌, ℤ, pos, length, Result, Ok, Err}
use Rattle.cells.specs.Cells.{zeros}
use Rattle.refusals.specs.Rows.{cycle_row, row_number}
use Rattle.refusals.specs.Refusal.{or_else, Verdict, Refused}
use Rattle.lines.specs.Lines.{labels, head_bad}
use Rattle.order.specs.Order.{Answer, cycle, whole, mixed, plan, order_of}
use Rattle.order.specs.Rows16to18.{cycle_bad}
use Rattle.reading.specs.Read.{sheet_bad, sheet_table, table_of}
use Rattle.calls.specs.Buffers.{plan_buffers}
use Rattle.refusals.specs.declared.Refusal.{Refusal}
use Rattle.planning.specs.declared.Plan.{Plan}
use Rattle.planning.specs.declared.Plan.TheVariants as reply

-- rows 1 to 15, and 1 to 16, of a call in whose buffers row 4 finds b, in the order of the paper's table
unfoldable pub open_bad : List ℕ → Verdict → Verdict
open_bad s b = or_else (head_bad s) (or_else b (sheet_bad s))

unfoldable pub planned_bad : List ℕ → Verdict → Verdict
planned_bad s b = or_else (open_bad s b) (cycle_bad (sheet_table s) (labels s))

-- the plan of a sheet that reads
unfoldable pub plan_of : List ℕ → Answer
plan_of s = plan (sheet_table s) (labels s)

-- what Plan and Run answer: a plan's length, and whole or mixed; or a refusal
abbrev pub PlanReply : Type 0
PlanReply = Result Plan Refusal

-- the reply where the rows find v: the plan's length, and whole or mixed. Where row 16 finds nothing the plan is no
-- cycle, so the last line is never asked.
abbrev pub answer_by : Verdict → Answer → PlanReply
answer_by (Err e) a = Err e
answer_by (Ok _) (whole o) = Ok (reply.Whole (length o))
answer_by (Ok _) (mixed o) = Ok (reply.Mixed (length o))
answer_by (Ok _) (cycle v) = Refused cycle_row v

-- the plan's labels in p cells, of which the unused ones are zero; nothing but zeros where the call refuses
abbrev pub listed_by : Verdict → Answer → ℕ → List ℤ
listed_by (Ok _) a p = map pos (order_of a) ++ zeros (p - length (order_of a))
listed_by (Err e) a p = zeros p

unfoldable pub plan_bad : List ℕ → ℕ → ℕ → Verdict
plan_bad s m p = planned_bad s (plan_buffers s m p)

unfoldable pub plan_reply : List ℕ → ℕ → ℕ → PlanReply
plan_reply s m p = answer_by (plan_bad s m p) (plan_of s)

unfoldable pub plan_table : List ℕ → ℕ → ℕ → List ℤ
plan_table s m p = table_of (plan_bad s m p) s m

unfoldable pub plan_cells : List ℕ → ℕ → ℕ → List ℤ
plan_cells s m p = listed_by (plan_bad s m p) (plan_of s) p

-- ---- document 01's number, place and values of a reply

abbrev pub plan_refusal : PlanReply → ℕ
plan_refusal (Err e) = row_number e.row
plan_refusal (Ok (reply.Whole k)) = 0
plan_refusal (Ok (reply.Mixed k)) = 0

abbrev pub plan_place : PlanReply → ℕ
plan_place (Err e) = e.place
plan_place (Ok (reply.Whole k)) = 0
plan_place (Ok (reply.Mixed k)) = 0

-- the plan's length; 0 of a refusal
abbrev pub length_of : PlanReply → ℕ
length_of (Err e) = 0
length_of (Ok (reply.Whole k)) = k
length_of (Ok (reply.Mixed k)) = k

-- whole 1, mixed 2; 0 of a refusal
abbrev pub whole_or_mixed : PlanReply → ℕ
whole_or_mixed (Err e) = 0
whole_or_mixed (Ok (reply.Whole k)) = 1
whole_or_mixed (Ok (reply.Mixed k)) = 2

-- a reply that is an answer
abbrev pub is_answer : PlanReply → Bool
is_answer (Err e) = false
is_answer (Ok (reply.Whole k)) = true
is_answer (Ok (reply.Mixed k)) = true
