-- Retouch as a whole: rows 1 to 4 with the changes, what is left of a sheet that has been run, and what the call then leaves.
use mathlib.Core.Path.{◌≡◌, refl, sym, ap, ◌∙◌}
use Rattle.refusals.specs.declared.Refusal.{Refusal}
use Rattle.std.specs.Prelude.{Ok, Err}
use Rattle.refusals.specs.declared.Refusal.{Refusal}
use mathlib.Core.Bool.{true}
use mathlib.Core.List.{List, ◌++◌}
use Prim.Native.Nat.{ℕ, ◌-◌, ◌*◌, ◌≤◌}
use native.Mathlib.Omega.{arith}
use lib.IntN.{ℤ}
use lib.ListN.{length, take, drop}
use lib.Seq.{drop_at, length-take-le}
use Rattle.cells.specs.Cells.{zeros}
use Rattle.cells.specs.Clearing.{clear_from}
use Rattle.cells.proofs.Clearing.{clear_split}
use Rattle.refusals.specs.Refusal.{or_else, reply_of, Verdict, Fine, Reply}
use Rattle.refusals.proofs.OrElse.{both_fine}
use Rattle.lines.specs.Lines.{labels, head_bad, arithmetic_of}
use Rattle.reading.specs.Read.{sheet_table, Reads}
use Rattle.reading.specs.ReadStages.{Passed}
use Rattle.reading.proofs.Accepted.{read_length}
use Rattle.numbers.specs.declared.Arithmetic.{Arithmetic}
use Rattle.figures.specs.Figures.{result_cells}
use Rattle.redoing.specs.Pairs.{pair_count, with_pairs}
use Rattle.redoing.specs.Redone.{changes_of}
use Rattle.redoing.specs.RedoStages.{Standing, PairsApplied}
use Rattle.calls.specs.Buffers.{run_buffers}
use Rattle.calls.specs.Plan.{planned_bad, length_of, is_answer, PlanReply}
use Rattle.calls.specs.Demand.{PlanKept}
use Rattle.calls.specs.CallStages.{short_by, head_reply, sheet_planned, cells_to, SheetRuns}
use Rattle.calls.proofs.Rooms.{long, table_room, plan_room, results_room, run_rooms, or_all, next, opened}
use Rattle.calls.proofs.Sheets.{kept}
use Rattle.calls.proofs.Calls.{rows_sheet, rows_head, sheet_fine, sheet_shut, fine, rows_sheets, run_down_ready}
use Rattle.retouching.specs.Retouch.{changes_short, retouch_buffers, pairs_bad, retouch_bad, retouched}
use Rattle.retouching.specs.Retouch.{retouch_reply, retouch_table, retouch_plan, retouch_results, retouch_changes, RetouchLeaves}
use Rattle.retouching.specs.RetouchStages.{RetouchBy, RunRetouches, sheet_retouched, SheetRetouches}

-- ---- rows 1 to 4

module _ (s : List ℕ) (ps : List ℤ) (w : ℕ) (b : Verdict) (q : Reply) (e : q ≡ head_reply s b) where
  pub changes_next : (k : ℕ) (x : Reply) → q ≡ Ok k → x ≡ reply_of (short_by (3 * pair_count ps) w 4) k → x ≡ head_reply s (or_else b (changes_short ps w))
  unfolding changes_short
  changes_next k x f g = rw (← or_all (head_bad s) b (changes_short ps w)) (next (or_else (head_bad s) b) (labels s) q e (λ _. short_by (3 * pair_count ps) w 4) k x f g)

changes_room : (ps : List ℤ) (w : ℕ) → changes_short ps w ≡ Fine → 3 * pair_count ps ≤ w
unfolding changes_short
changes_room ps w e = long (3 * pair_count ps) w 4 e

-- ---- the call, whose rows 1 to 4 replied x

module _ (s : List ℕ) (ps : List ℤ) (m p q w : ℕ) (x : Reply) (e : x ≡ head_reply s (retouch_buffers s ps m p q w)) where
  pub retouch_ready : (k : ℕ) → x ≡ Ok k → Passed s k × (8 * k ≤ m) × (k ≤ p) × (3 * k ≤ q) × (3 * pair_count ps ≤ w)
  retouch_ready k f =
      let h = opened s (retouch_buffers s ps m p q w) x e k f in
      let b = both_fine (run_buffers s m p q) (changes_short ps w) h.1 in
      let r = run_rooms s m p q b.0 in
      let n = h.0.count in
      (h.0, rw n (table_room s m r.0), rw n (plan_room s p r.1), rw n (results_room s q r.2), changes_room ps w b.1)

  bad_sheet : (k : ℕ) → x ≡ Ok k → retouch_bad s ps m p q w ≡ sheet_retouched s ps
  unfolding retouch_bad sheet_retouched
  bad_sheet k f = ap (λ (v : Verdict). or_else v (pairs_bad (sheet_table s) ps)) (rows_sheet s (retouch_buffers s ps m p q w) x e k f)

  bad_head : (i : Refusal) → x ≡ Err i → retouch_bad s ps m p q w ≡ Err i
  unfolding retouch_bad
  bad_head i f = ap (λ (v : Verdict). or_else v (pairs_bad (sheet_table s) ps)) (rows_head s (retouch_buffers s ps m p q w) x e i f)

  -- demand 3's promise, where the rows of the list find nothing
  promised : (v : Verdict) (r : PlanReply) (t o u c : List ℤ) → retouch_bad s ps m p q w ≡ v → RetouchBy v s ps m p q w r t o u c
      → Reads s → retouch_buffers s ps m p q w ≡ Fine → pairs_bad (sheet_table s) ps ≡ Fine → PlanKept (sheet_table s) r o
  unfolding retouch_bad
  promised v r t o u c g k reads f n = rw (k.reply, k.plan, ← g, same) (kept s (retouch_buffers s ps m p q w) reads f p)
    where
      or_fine : (a z : Verdict) → z ≡ Fine → or_else a z ≡ a
      or_fine (Ok _) z h = h
      or_fine (Err e) z h = refl

      same : retouch_bad s ps m p q w ≡ planned_bad s (retouch_buffers s ps m p q w)
      same = or_fine (planned_bad s (retouch_buffers s ps m p q w)) (pairs_bad (sheet_table s) ps) n

  leaves : (v : Verdict) (r : PlanReply) (t o u c : List ℤ) → retouch_bad s ps m p q w ≡ v → RetouchBy v s ps m p q w r t o u c → RetouchLeaves s ps m p q w r t o u c
  unfolding retouch_reply retouch_table retouch_plan retouch_results retouch_changes
  leaves v r t o u c g k = record {
    reply = rw g k.reply;
    table = rw g k.table;
    plan = rw g k.plan;
    results = rw g k.results;
    changes = rw g k.changes;
    kept = promised v r t o u c g k;
  }

  pub retouch_answered : (k : ℕ) (r : PlanReply) (t o u c : List ℤ) → x ≡ Ok k → SheetRetouches s ps m p q w r t o u c → RetouchLeaves s ps m p q w r t o u c
  retouch_answered k r t o u c f = leaves (sheet_retouched s ps) r t o u c (bad_sheet k f)

  pub retouch_refused : (i : Refusal) (t o u c : List ℤ) → x ≡ Err i → t ≡ zeros m → o ≡ zeros p → u ≡ zeros q → c ≡ zeros w
      → RetouchLeaves s ps m p q w (Err i) t o u c
  retouch_refused i t o u c f a b d g = leaves (Err i) (Err i) t o u c (bad_head i f) (record { reply = refl; table = a; plan = b; results = d; changes = g })

-- ---- rows 5 to 21

-- ---- rows 19 to 21 of a sheet that has been run

module _ (α : Arithmetic) (n : ℕ) (ps t o : List ℤ) where
  -- nothing found, and the pairs applied to the table's first cells, with changes that are cleared behind theirs
  pub run_applied : (u c : List ℤ) {u' t' c₀ c' : List ℤ} → pairs_bad (cells_to n t) ps ≡ Fine → 3 * pair_count ps ≤ length c → c₀ ≡ clear_from (3 * pair_count ps) c
      → PairsApplied α (cells_to n t) n ps (pair_count ps) u c₀ t' u' c' → RunRetouches α n ps t o (length u) (length c) Fine (t' ++ drop (8 * n) t) o u' c'
  run_applied u c {u'} {t'} {c₀} {c'} e h z a = record {
    found = sym e;
    table = ap (λ (x : List ℤ). x ++ drop (8 * n) t) a.table;
    plan = refl;
    results = a.results;
    changes = a.changes ∙ ap (λ (x : List ℤ). changes_of α (cells_to n t) n ps (pair_count ps) ++ x) past;
  }
    where
      past : drop (3 * pair_count ps) c₀ ≡ zeros (length c - 3 * pair_count ps)
      past =
          ap (drop (3 * pair_count ps)) (z ∙ clear_split c (3 * pair_count ps) h)
          ∙ drop_at (take (3 * pair_count ps) c) (zeros (length c - 3 * pair_count ps)) (3 * pair_count ps) (length-take-le (3 * pair_count ps) c h)

-- a reply that stands unless a row refuses
abbrev pub unless_refused : Verdict → PlanReply → PlanReply
unless_refused (Ok _) r = r
unless_refused (Err e) r = Err e

module _ (s : List ℕ) (ps : List ℤ) (m p q w n : ℕ) (r : PlanReply) (t o u : List ℤ) (h : Passed s n) (st : SheetRuns s m p q r t o u) where
  -- rows 5 to 16 refused
  pub run_refused : (i : Refusal) (c : List ℤ) → r ≡ Err i → c ≡ zeros w → SheetRetouches s ps m p q w (Err i) t o u c
  unfolding sheet_retouched
  run_refused i c e f = rw found (record {
    reply = refl;
    table = rw shut at st.planned.table;
    plan = rw shut at st.planned.plan;
    results = rw shut at st.results;
    changes = f;
  })
    where
      shut : sheet_planned s ≡ Err i
      shut = sheet_shut s m p n r t o h st.planned i e

      found : sheet_retouched s ps ≡ Err i
      found = rw shut refl

  -- they answered a, a plan of k labels
  module _ (a : PlanReply) (is : r ≡ a) (answers : is_answer a ≡ true) (k : ℕ) (counts : length_of a ≡ k) where
    planned : sheet_planned s ≡ Fine
    planned = fine s m p n r t o h st.planned a is answers k counts

    reads : Reads s
    reads = (sheet_fine s m p n r t o h st.planned planned).0

    rows : cells_to n t ≡ sheet_table s
    rows = rows_sheets s m p n r t o h st.planned a is answers k counts

    pub run_standing : {α : Arithmetic} → α ≡ arithmetic_of s → n ≤ p → 3 * n ≤ q → length t ≡ m → length o ≡ p → length u ≡ q → Standing α (cells_to n t) n o k u
    run_standing own g fit _ long-o long-u =
        let d = run_down_ready s m p n r t o h st.planned a is answers k counts g in
        record {
          accepted = d.0;
          plans = omega (arith, d.1, long-o);
          proper = d.2;
          fit = omega (arith, long-u);
          results = (rw planned at st.results) ∙ rw (own, rows, h.count, long-u) refl;
        }

    -- and rows 19 to 21 found v, which is x
    pub run_retouched : {α : Arithmetic} → α ≡ arithmetic_of s → (v x : Verdict) → v ≡ x → (t' o' u' c : List ℤ) → length t ≡ m → length o ≡ p → length u ≡ q
        → RunRetouches α n ps t o (length u) w v t' o' u' c
        → SheetRetouches s ps m p q w (unless_refused x a) t' o' u' c
    unfolding sheet_retouched retouched
    run_retouched own v x f t' o' u' c long-t long-o long-u d = go x f
      where
        found : sheet_retouched s ps ≡ v
        found = rw planned (ap (λ (x : List ℤ). pairs_bad x ps) (sym rows) ∙ sym d.found)

        past : drop (8 * n) t ≡ zeros (m - 8 * labels s)
        past =
            ap (drop (8 * n)) (rw planned at st.planned.table)
            ∙ drop_at (sheet_table s) (zeros (m - 8 * labels s)) (8 * n) (read_length s reads ∙ ap (λ (x : ℕ). 8 * x) (sym h.count))

        go : (x : Verdict) → v ≡ x → SheetRetouches s ps m p q w (unless_refused x a) t' o' u' c
        go (Ok _) z = rw (found, z) (record {
          reply = sym is ∙ (rw planned at st.planned.reply);
          table = (rw z at d.table) ∙ (λ i. with_pairs ps (pair_count ps) (rows i) ++ past i);
          plan = (rw z at d.plan) ∙ (rw planned at st.planned.plan);
          results = (rw z at d.results) ∙ (λ i. result_cells (own i) (with_pairs ps (pair_count ps) (rows i)) (h.count i) (long-u i));
          changes = (rw z at d.changes) ∙ (λ i. changes_of (own i) (rows i) (h.count i) ps (pair_count ps) ++ zeros (w - 3 * pair_count ps));
        })
        go (Err e) z = rw (found, z) (record {
          reply = refl;
          table = (rw z at d.table) ∙ ap zeros long-t;
          plan = (rw z at d.plan) ∙ ap zeros long-o;
          results = (rw z at d.results) ∙ ap zeros long-u;
          changes = rw z at d.changes;
        })
