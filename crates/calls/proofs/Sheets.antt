-- Rows 1 to 16 of a text s and a table lent with m cells: what each stage leaves, and what Plan and Run then answer and write.
use mathlib.Core.Path.{◌≡◌, refl, sym, ap, ◌∙◌}
use Rattle.std.specs.Prelude.{Ok, Err}
use Rattle.refusals.specs.declared.Refusal.{Refusal}
use mathlib.Core.List.{List}
use Prim.Native.Nat.{ℕ, ◌-◌, ◌*◌}
use lib.IntN.{ℤ}
use lib.ListN.{length}
use lib.Seq.{take_at}
use Rattle.cells.specs.Cells.{zeros}
use Rattle.cells.specs.Accepted.{Accepted}
use Rattle.refusals.specs.Refusal.{or_else, Verdict, Fine}
use Rattle.refusals.proofs.OrElse.{both_fine}
use Rattle.lines.specs.Lines.{labels, head_bad}
use Rattle.order.specs.Rows16to18.{cycle_bad}
use Rattle.reading.specs.Read.{sheet_bad, sheet_table, Reads, table_of}
use Rattle.reading.specs.ReadStages.{Passed, SheetReads}
use Rattle.reading.proofs.Accepted.{reads, read_accepted, read_length}
use Rattle.calls.specs.Plan.{open_bad, planned_bad, plan_of, answer_by, listed_by, PlanReply}
use Rattle.calls.specs.Demand.{PlanKept}
use Rattle.calls.specs.CallStages.{sheet_planned, kept_by, cells_to, PlanBy, TablePlans, SheetPlans}
use Rattle.calls.proofs.Answers.{plan_kept}

-- the rows of a call, taken apart where its sheet's begin
or_apart : (h b x c : Verdict) → or_else (or_else h (or_else b x)) c ≡ or_else (or_else h b) (or_else x c)
or_apart (Err e) b x c = refl
or_apart (Ok _) (Err e) x c = refl
or_apart (Ok _) (Ok _) x c = refl

-- a table that is the sheet's, or cleared
table_left : (v : Verdict) (s : List ℕ) (m : ℕ) (t : List ℤ) → t ≡ table_of Fine s m → length t ≡ m → kept_by v t ≡ table_of v s m
table_left (Ok _) s m t e l = e
table_left (Err z) s m t e l = ap zeros l

-- the rows of n labels in a table t that holds those of a sheet that reads
pub rows_taken : (s : List ℕ) (m n : ℕ) (t : List ℤ) → Reads s → n ≡ labels s → t ≡ table_of Fine s m → cells_to n t ≡ sheet_table s
rows_taken s m n t e is f = rw (is, f) (take_at (sheet_table s) (zeros (m - 8 * labels s)) (8 * labels s) (read_length s e))

-- ---- rows 5 to 16

pub refused_plans : (v : Verdict) (s : List ℕ) (m p : ℕ) (r : Refusal) (t q : List ℤ) → v ≡ Err r → t ≡ zeros m → q ≡ zeros p → PlanBy v s m p (Err r) t q
refused_plans v s m p r t q e f g = record { reply = rw e; table = rw e f; plan = rw e g }

-- rows 5 to 15 found v and left t
module _ (s : List ℕ) (m n : ℕ) (h : Passed s n) (v : Verdict) (t : List ℤ) (b : SheetReads s m v t) where
  sheet_reads : v ≡ Fine → Reads s
  sheet_reads f = reads s h.head (sym b.found ∙ f)

  pub sheet_rows : v ≡ Fine → cells_to n t ≡ sheet_table s
  sheet_rows f = rows_taken s m n t (sheet_reads f) h.count (b.left f)

  pub sheet_ready : v ≡ Fine → Accepted (cells_to n t) n
  sheet_ready f = rw (sheet_rows f, h.count) (read_accepted s (sheet_reads f))

  pub sheet_plans : (p : ℕ) (r : PlanReply) (u q : List ℤ) → v ≡ Fine → length t ≡ m → TablePlans n t p r u q → SheetPlans s m p r u q
  unfolding sheet_planned plan_of
  sheet_plans p r u q f l k =
      let e = sym b.found ∙ f in
      let left = table_left (cycle_bad (cells_to n t) n) s m t (b.left f) l in
      record {
        reply = rw (e, ← sheet_rows f, ← h.count) k.reply;
        table = rw (e, ← sheet_rows f, ← h.count) (k.table ∙ left);
        plan = rw (e, ← sheet_rows f, ← h.count) k.plan;
      }

  pub sheet_refused : (r : Refusal) → v ≡ Err r → sheet_planned s ≡ Err r
  unfolding sheet_planned
  sheet_refused r f = rw (sym b.found ∙ f)

-- ---- rows 1 to 16, where row 4 finds b

module _ (s : List ℕ) (b : Verdict) where
  pub all_rows : planned_bad s b ≡ or_else (or_else (head_bad s) b) (sheet_planned s)
  unfolding planned_bad open_bad sheet_planned
  all_rows = or_apart (head_bad s) b (sheet_bad s) (cycle_bad (sheet_table s) (labels s))

  pub rows_open : head_bad s ≡ Fine → b ≡ Fine → planned_bad s b ≡ sheet_planned s
  rows_open h e = rw (all_rows, h, e)

  pub rows_shut : (r : Refusal) → or_else (head_bad s) b ≡ Err r → planned_bad s b ≡ Err r
  rows_shut r e = rw (all_rows, e)

  -- where rows 1 to 15 find nothing, the sheet reads and the buffers are long enough
  pub open_reads : open_bad s b ≡ Fine → Reads s × (b ≡ Fine)
  unfolding open_bad
  open_reads e =
      let h = both_fine (head_bad s) (or_else b (sheet_bad s)) e in
      let r = both_fine b (sheet_bad s) h.1 in
      (reads s h.0 r.1, r.0)

  pub planned_reads : planned_bad s b ≡ Fine → Reads s × (b ≡ Fine) × (cycle_bad (sheet_table s) (labels s) ≡ Fine)
  unfolding planned_bad
  planned_reads e =
      let c = both_fine (open_bad s b) (cycle_bad (sheet_table s) (labels s)) e in
      let o = open_reads c.0 in
      (o.0, o.1, c.1)

  module _ (e : Reads s) (f : b ≡ Fine) where
    reads_open : open_bad s b ≡ Fine
    unfolding open_bad
    reads_open = rw f e

    pub reads_planned : planned_bad s b ≡ cycle_bad (sheet_table s) (labels s)
    unfolding planned_bad
    reads_planned = rw reads_open

    pub kept : (p : ℕ) → PlanKept (sheet_table s) (answer_by (planned_bad s b) (plan_of s)) (listed_by (planned_bad s b) (plan_of s) p)
    unfolding plan_of
    kept p = rw reads_planned (plan_kept (sheet_table s) (labels s) (read_accepted s e) p)

  -- demand 3's promise, where all rows find v
  pub promise : (m p : ℕ) (v : Verdict) (r : PlanReply) (t q : List ℤ) → planned_bad s b ≡ v → PlanBy v s m p r t q
      → Reads s → b ≡ Fine → PlanKept (sheet_table s) r q
  promise m p v r t q e k o h =
      let f : r ≡ answer_by (planned_bad s b) (plan_of s) = rw e k.reply in
      let g : q ≡ listed_by (planned_bad s b) (plan_of s) p = rw e k.plan in
      rw (f, g) (kept o h p)
