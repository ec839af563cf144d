-- What the exported functions leave: the call's reply as C sees it, and the buffers as the call leaves them. The text is s; the table t is
-- lent with m cells, the plan o with p and the results u with q. (What lindypo_name and lindypo_print leave is said where they are: they
-- hand on a part of the text, and the print.)
use Rattle.std.specs.Prelude.{◌≡◌, List, ℕ, ℤ}
use Rattle.refusals.specs.Refusal.{refusal_of, place_of, count_of, Reply}
use Rattle.reading.specs.Read.{read_reply, read_table}
use Rattle.calls.specs.Plan.{plan_reply, plan_table, plan_cells, PlanReply}
use Rattle.calls.specs.Plan as plans
use Rattle.calls.specs.Run.{run_reply, run_table, run_plan, run_results}
use Rattle.calls.specs.Follow.{follow_reply, follow_table, follow_results}
use Rattle.retouching.specs.Retouch.{retouch_reply, retouch_table, retouch_plan, retouch_results, retouch_changes}
use Rattle.lindypo.specs.declared.CReply.{CReply}

-- ---- a reply as C sees it

-- of Read and Follow, which plan nothing
pub record Answers (r : Reply) (a : CReply) : Type 0 where
  pub refusal : a.refusal ≡ refusal_of r
  pub place : a.place ≡ place_of r
  pub count : a.count ≡ count_of r
  pub order : a.order ≡ 0

-- of Plan, Run and Retouch
pub record PlanAnswers (r : PlanReply) (a : CReply) : Type 0 where
  pub refusal : a.refusal ≡ plans.plan_refusal r
  pub place : a.place ≡ plans.plan_place r
  pub count : a.count ≡ plans.length_of r
  pub order : a.order ≡ plans.whole_or_mixed r

-- ---- the exports

pub record ReadExport (s : List ℕ) (m : ℕ) (a : CReply) (t : List ℤ) : Type 0 where
  pub answer : Answers (read_reply s m) a
  pub table : t ≡ read_table s m

pub record PlanExport (s : List ℕ) (m p : ℕ) (a : CReply) (t o : List ℤ) : Type 0 where
  pub answer : PlanAnswers (plan_reply s m p) a
  pub table : t ≡ plan_table s m p
  pub plan : o ≡ plan_cells s m p

pub record RunExport (s : List ℕ) (m p q : ℕ) (a : CReply) (t o u : List ℤ) : Type 0 where
  pub answer : PlanAnswers (run_reply s m p q) a
  pub table : t ≡ run_table s m p q
  pub plan : o ≡ run_plan s m p q
  pub results : u ≡ run_results s m p q

-- of an order list l
pub record FollowExport (s : List ℕ) (l : List ℤ) (m q : ℕ) (a : CReply) (t u : List ℤ) : Type 0 where
  pub answer : Answers (follow_reply s l m q) a
  pub table : t ≡ follow_table s l m q
  pub results : u ≡ follow_results s l m q

-- of a list of pairs ps; the changes c are lent with w cells
pub record RetouchExport (s : List ℕ) (ps : List ℤ) (m p q w : ℕ) (a : CReply) (t o u c : List ℤ) : Type 0 where
  pub answer : PlanAnswers (retouch_reply s ps m p q w) a
  pub table : t ≡ retouch_table s ps m p q w
  pub plan : o ≡ retouch_plan s ps m p q w
  pub results : u ≡ retouch_results s ps m p q w
  pub changes : c ≡ retouch_changes s ps m p q w
