-- Plan and Run as wholes: what rows 1 to 4 replied, and what the call then leaves.
use mathlib.Core.Path.{◌≡◌, refl, sym, ap, ◌∙◌}
use Rattle.std.specs.Prelude.{Ok, Err}
use Rattle.refusals.specs.declared.Refusal.{Refusal}
use mathlib.Core.Bool.{Bool, true, false}
use mathlib.Core.List.{List}
use Prim.Native.Nat.{ℕ, ◌*◌, ◌≤◌}
use native.Mathlib.Omega.{arith}
use lib.IntN.{ℤ}
use lib.ListN.{take}
use Rattle.cells.specs.Cells.{zeros}
use Rattle.cells.specs.Accepted.{Accepted}
use Rattle.refusals.specs.Refusal.{or_else, Verdict, Fine, Reply}
use Rattle.refusals.proofs.OrElse.{both_fine}
use Rattle.lines.specs.Lines.{labels, arithmetic_of}
use Rattle.order.specs.Following.{ProperList}
use Rattle.order.specs.Rows16to18.{cycle_bad}
use Rattle.reading.specs.Read.{table_short, sheet_bad, sheet_table, Reads}
use Rattle.reading.specs.ReadStages.{Passed}
use Rattle.reading.proofs.Accepted.{reads, read_accepted}
use Rattle.numbers.specs.declared.Arithmetic.{Arithmetic}
use Rattle.figures.specs.Figures.{result_cells}
use Rattle.calls.specs.Buffers.{plan_short, results_short, plan_buffers, run_buffers}
use Rattle.calls.specs.Plan.{planned_bad, plan_of, answer_by, listed_by, length_of, plan_bad, plan_reply, plan_table, plan_cells, is_answer, PlanReply}
use Rattle.calls.specs.Run.{run_bad, run_reply, run_table, run_plan, run_results}
use Rattle.calls.specs.Demand.{PlanKept}
use Rattle.calls.specs.Leaves.{PlanLeaves, RunLeaves}
use Rattle.calls.specs.CallStages.{head_reply, sheet_planned, cells_to, PlanBy, RunBy, SheetPlans, SheetRuns}
use Rattle.calls.proofs.Rooms.{table_room, plan_room, results_room, opened, shut}
use Rattle.calls.proofs.Answers.{answers_number, answers_fine, fine_answers, length_few, plan_kept}
use Rattle.calls.proofs.Sheets.{rows_taken, refused_plans, rows_open, rows_shut, promise}

-- ---- a call that is lent a table of m cells and other buffers, in which row 4 finds w; rows 1 to 4 replied x

module _ (s : List ℕ) (m : ℕ) (w : Verdict) (x : Reply) (e : x ≡ head_reply s (or_else (table_short s m) w)) where
  pub ready : (k : ℕ) → x ≡ Ok k → Passed s k × (8 * k ≤ m) × (w ≡ Fine)
  ready k f =
      let h = opened s (or_else (table_short s m) w) x e k f in
      let b = both_fine (table_short s m) w h.1 in
      (h.0, rw h.0.count (table_room s m b.0), b.1)

-- ---- a call in whose buffers row 4 finds b; rows 1 to 4 replied x

module _ (s : List ℕ) (b : Verdict) (x : Reply) (e : x ≡ head_reply s b) where
  pub rows_sheet : (k : ℕ) → x ≡ Ok k → planned_bad s b ≡ sheet_planned s
  rows_sheet k f = let h = opened s b x e k f in rows_open s b h.0.head h.1

  pub rows_head : (i : Refusal) → x ≡ Err i → planned_bad s b ≡ Err i
  rows_head i f = rows_shut s b i (shut s b x e i f)

-- ---- Plan

module _ (s : List ℕ) (m p : ℕ) where
  plan_leaves : (v : Verdict) (r : PlanReply) (t o : List ℤ) → planned_bad s (plan_buffers s m p) ≡ v → PlanBy v s m p r t o → PlanLeaves s m p r t o
  unfolding plan_reply plan_table plan_cells plan_bad
  plan_leaves v r t o e k = record {
    reply = rw e k.reply;
    table = rw e k.table;
    plan = rw e k.plan;
    kept = promise s (plan_buffers s m p) m p v r t o e k;
  }

  module _ (x : Reply) (e : x ≡ head_reply s (plan_buffers s m p)) where
    pub plan_ready : (k : ℕ) → x ≡ Ok k → Passed s k × (8 * k ≤ m) × (k ≤ p)
    plan_ready k f =
        let h = ready s m (plan_short s p) x e k f in
        (h.0, h.1, rw h.0.count (plan_room s p h.2))

    pub plan_answered : (k : ℕ) (r : PlanReply) (t o : List ℤ) → x ≡ Ok k → SheetPlans s m p r t o → PlanLeaves s m p r t o
    plan_answered k r t o f = plan_leaves (sheet_planned s) r t o (rows_sheet s (plan_buffers s m p) x e k f)

    pub plan_refused : (i : Refusal) (t o : List ℤ) → x ≡ Err i → t ≡ zeros m → o ≡ zeros p → PlanLeaves s m p (Err i) t o
    plan_refused i t o f a b =
        plan_leaves (Err i) (Err i) t o (rows_head s (plan_buffers s m p) x e i f) (refused_plans (Err i) s m p i t o refl a b)

-- ---- Run

-- after rows 5 to 16 of a sheet whose table and plan stand
module _ (s : List ℕ) (m p n : ℕ) (r : PlanReply) (t o : List ℤ) (h : Passed s n) (st : SheetPlans s m p r t o) where
  pub sheet_fine : sheet_planned s ≡ Fine → Reads s × (cycle_bad (sheet_table s) (labels s) ≡ Fine)
  unfolding sheet_planned
  sheet_fine e =
      let c = both_fine (sheet_bad s) (cycle_bad (sheet_table s) (labels s)) e in
      (reads s h.head c.0, c.1)

  -- an answer x, of length k
  module _ (x : PlanReply) (is : r ≡ x) (a : is_answer x ≡ true) (k : ℕ) (l : length_of x ≡ k) where
    pub fine : sheet_planned s ≡ Fine
    fine = answers_fine (sheet_planned s) (plan_of s) (ap is_answer (sym st.reply ∙ is) ∙ a)

    -- by row 16 alone
    by_cycle : (x ≡ answer_by (cycle_bad (sheet_table s) (labels s)) (plan_of s)) × (o ≡ listed_by (cycle_bad (sheet_table s) (labels s)) (plan_of s) p)
    by_cycle = rw (sheet_fine fine).1 (sym is ∙ (rw fine at st.reply), rw fine at st.plan)

    pub rows_sheets : cells_to n t ≡ sheet_table s
    rows_sheets = rows_taken s m n t (sheet_fine fine).0 h.count (rw fine at st.table)

    pub run_down_ready : n ≤ p → Accepted (cells_to n t) n × (k ≤ p) × ProperList (cells_to n t) (take k o)
    unfolding plan_of
    run_down_ready g =
        let ok = read_accepted s (sheet_fine fine).0 in
        let c = by_cycle in
        let few : length_of x ≤ labels s = rw c.0 (length_few (sheet_table s) (labels s) ok) in
        let kept : PlanKept (sheet_table s) x o = rw (c.0, c.1) (plan_kept (sheet_table s) (labels s) ok p) in
        (rw (rows_sheets, h.count) ok, omega (arith, h.count), rw (rows_sheets, ← l) (kept.proper (answers_number x a)))

    pub results_evaluated : {α : Arithmetic} → α ≡ arithmetic_of s → (q : ℕ) (u : List ℤ) → u ≡ result_cells α (cells_to n t) n q → SheetRuns s m p q x t o u
    results_evaluated own q u e = record {
      planned = record { reply = sym is ∙ st.reply; table = st.table; plan = st.plan };
      results = rw fine (e ∙ rw (own, rows_sheets, h.count));
    }

  -- a refusal is that of rows 5 to 16
  pub sheet_shut : (i : Refusal) → r ≡ Err i → sheet_planned s ≡ Err i
  unfolding plan_of
  sheet_shut i e = go (sheet_planned s) refl
    where
      go : (v : Verdict) → sheet_planned s ≡ v → sheet_planned s ≡ Err i
      go (Err z) g = let w : ◌≡◌ {A = PlanReply} (Err z) (Err i) = sym (rw g at st.reply) ∙ e in let q : z ≡ i = cc in g ∙ ap Err q
      go (Ok _) g =
          let c = sheet_fine g in
          let w : is_answer r ≡ true = rw (st.reply, g, ← c.1) (fine_answers (sheet_table s) (labels s) (read_accepted s c.0) c.1) in
          let z : ◌≡◌ {A = Bool} true false = sym w ∙ ap is_answer e in
          let y : ◌≡◌ {A = ℕ} 0 1 = cc in absurd (omega arith)

  pub results_cleared : (i : Refusal) (q : ℕ) (u : List ℤ) → r ≡ Err i → u ≡ zeros q → SheetRuns s m p q (Err i) t o u
  results_cleared i q u e f = record {
    planned = record { reply = sym e ∙ st.reply; table = st.table; plan = st.plan };
    results = rw (sheet_shut i e) f;
  }

module _ (s : List ℕ) (m p q : ℕ) where
  run_leaves : (v : Verdict) (r : PlanReply) (t o u : List ℤ) → planned_bad s (run_buffers s m p q) ≡ v → RunBy v s m p q r t o u → RunLeaves s m p q r t o u
  unfolding run_reply run_table run_plan run_results run_bad
  run_leaves v r t o u e k = record {
    reply = rw e k.planned.reply;
    table = rw e k.planned.table;
    plan = rw e k.planned.plan;
    results = rw e k.results;
    kept = promise s (run_buffers s m p q) m p v r t o e k.planned;
  }

  module _ (x : Reply) (e : x ≡ head_reply s (run_buffers s m p q)) where
    pub run_ready : (k : ℕ) → x ≡ Ok k → Passed s k × (8 * k ≤ m) × (k ≤ p) × (3 * k ≤ q)
    run_ready k f =
        let h = ready s m (or_else (plan_short s p) (results_short s q)) x e k f in
        let b = both_fine (plan_short s p) (results_short s q) h.2 in
        (h.0, h.1, rw h.0.count (plan_room s p b.0), rw h.0.count (results_room s q b.1))

    pub run_answered : (k : ℕ) (r : PlanReply) (t o u : List ℤ) → x ≡ Ok k → SheetRuns s m p q r t o u → RunLeaves s m p q r t o u
    run_answered k r t o u f = run_leaves (sheet_planned s) r t o u (rows_sheet s (run_buffers s m p q) x e k f)

    pub run_refused : (i : Refusal) (t o u : List ℤ) → x ≡ Err i → t ≡ zeros m → o ≡ zeros p → u ≡ zeros q → RunLeaves s m p q (Err i) t o u
    run_refused i t o u f a b c =
        run_leaves (Err i) (Err i) t o u (rows_head s (run_buffers s m p q) x e i f)
        (record { planned = refused_plans (Err i) s m p i t o refl a b; results = c })
