-- All that a call leaves: its reply r, every cell of every buffer that it is lent, and demand 3's promise. The text is s; the table t is
-- lent with m cells, a plan with p and the results u with q.
use Rattle.std.specs.Prelude.{◌≡◌, ◌↔◌, List, ℕ, ℤ}
use Rattle.refusals.specs.Refusal.{refusal_of, Fine, Reply}
use Rattle.order.specs.Following.{ProperList}
use Rattle.reading.specs.Read.{sheet_table, Reads}
use Rattle.calls.specs.Buffers.{plan_buffers, run_buffers, follow_buffers}
use Rattle.calls.specs.Plan.{plan_reply, plan_table, plan_cells, PlanReply}
use Rattle.calls.specs.Run.{run_reply, run_table, run_plan, run_results}
use Rattle.calls.specs.Follow.{follow_reply, follow_table, follow_results}
use Rattle.calls.specs.Demand.{PlanKept}

-- "Plan also writes the plan and answers its length and whole or mixed"
pub record PlanLeaves (s : List ℕ) (m p : ℕ) (r : PlanReply) (t o : List ℤ) : Type 0 where
  pub reply : r ≡ plan_reply s m p
  pub table : t ≡ plan_table s m p
  pub plan : o ≡ plan_cells s m p
  -- "Take any sheet that reads, with buffers long enough"
  pub kept : Reads s → plan_buffers s m p ≡ Fine → PlanKept (sheet_table s) r o

-- "Run also writes results, working down the plan; it answers as Plan does"
pub record RunLeaves (s : List ℕ) (m p q : ℕ) (r : PlanReply) (t o u : List ℤ) : Type 0 where
  pub reply : r ≡ run_reply s m p q
  pub table : t ≡ run_table s m p q
  pub plan : o ≡ run_plan s m p q
  pub results : u ≡ run_results s m p q
  pub kept : Reads s → run_buffers s m p q ≡ Fine → PlanKept (sheet_table s) r o

-- "Follow is lent an order list (signed 64-bit) instead of a plan, works down it, and answers its length": the list is o
pub record FollowLeaves (s : List ℕ) (o : List ℤ) (m q : ℕ) (r : Reply) (t u : List ℤ) : Type 0 where
  pub reply : r ≡ follow_reply s o m q
  pub table : t ≡ follow_table s o m q
  pub results : u ≡ follow_results s o m q
  -- "Whatever list Follow is handed, it accepts exactly when that list is a proper order of the sheet"
  pub accepts : Reads s → follow_buffers s m q ≡ Fine → (refusal_of r ≡ 0) ↔ ProperList (sheet_table s) o
