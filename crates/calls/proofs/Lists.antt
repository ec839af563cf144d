-- Rows 5 to 18 of an order list o, and Follow as a whole.
use mathlib.Core.Path.{◌≡◌, refl, sym, ap, ◌∙◌}
use Rattle.std.specs.Prelude.{Ok, Err}
use Rattle.refusals.specs.declared.Refusal.{Refusal}
use mathlib.Core.List.{List}
use Prim.Native.Nat.{ℕ, ◌*◌, ◌≤◌}
use lib.IntN.{ℤ}
use lib.ListN.{length}
use Rattle.cells.specs.Cells.{zeros}
use Rattle.cells.specs.Accepted.{Accepted}
use Rattle.refusals.specs.Refusal.{or_else, reply_of, Verdict, Fine, Reply}
use Rattle.refusals.proofs.OrElse.{both_fine}
use Rattle.lines.specs.Lines.{labels, head_bad, arithmetic_of}
use Rattle.order.specs.Following.{ProperList}
use Rattle.order.specs.Rows16to18.{cycle_bad, order_bad}
use Rattle.reading.specs.Read.{sheet_bad, sheet_table, Reads}
use Rattle.reading.specs.ReadStages.{Passed, SheetReads}
use Rattle.reading.proofs.Accepted.{reads, read_accepted}
use Rattle.reading.proofs.Stage.{refused_judged}
use Rattle.numbers.specs.declared.Arithmetic.{Arithmetic}
use Rattle.figures.specs.Figures.{result_cells}
use Rattle.calls.specs.Buffers.{results_short, follow_buffers}
use Rattle.calls.specs.Follow.{follow_bad, follow_reply, follow_table, follow_results}
use Rattle.calls.specs.Leaves.{FollowLeaves}
use Rattle.calls.specs.CallStages.{head_reply, sheet_planned, sheet_followed, cells_to, FollowBy, RowsFollow, SheetFollows}
use Rattle.calls.proofs.Rooms.{results_room, or_all, opened, shut}
use Rattle.calls.proofs.Sheets.{rows_taken, sheet_rows, all_rows}
use Rattle.calls.proofs.Calls.{ready}
use Rattle.calls.proofs.Followed.{order_proper}
use Rattle.calls.proofs.Demand.{follow_accepts}

module _ (s : List ℕ) (o : List ℤ) (m n : ℕ) (h : Passed s n) where
  -- ---- rows 5 to 15 found v and left t, and the others follow

  module _ (v : Verdict) (t : List ℤ) (b : SheetReads s m v t) where
    pub list_checked : (r : Verdict) → v ≡ Fine → r ≡ or_else (cycle_bad (cells_to n t) n) (order_bad (cells_to n t) n o) → RowsFollow s o m r t
    unfolding sheet_followed
    list_checked r f e = record {
      found = rw (sym b.found ∙ f, ← sheet_rows s m n h v t b f, ← h.count) e;
      left = λ _. b.left f;
    }

    pub list_unread : (r : Refusal) (u : List ℤ) → v ≡ Err r → RowsFollow s o m (Err r) u
    unfolding sheet_followed
    list_unread r u f = refused_judged _ _ r u (rw (sym b.found ∙ f))

  -- ---- rows 5 to 18 found v and left t

  parts : sheet_followed s o ≡ Fine → (sheet_bad s ≡ Fine) × (order_bad (sheet_table s) (labels s) o ≡ Fine)
  unfolding sheet_followed
  parts e =
      let a = both_fine (sheet_bad s) (or_else (cycle_bad (sheet_table s) (labels s)) (order_bad (sheet_table s) (labels s) o)) e in
      (a.0, (both_fine (cycle_bad (sheet_table s) (labels s)) (order_bad (sheet_table s) (labels s) o) a.1).1)

  module _ (v : Verdict) (t : List ℤ) (b : RowsFollow s o m v t) where
    list_reads : v ≡ Fine → Reads s
    list_reads f = reads s h.head (parts (sym b.found ∙ f)).0

    list_rows : v ≡ Fine → cells_to n t ≡ sheet_table s
    list_rows f = rows_taken s m n t (list_reads f) h.count (b.left f)

    pub list_ready : v ≡ Fine → Accepted (cells_to n t) n × ProperList (cells_to n t) o
    list_ready f =
        let ok = read_accepted s (list_reads f) in
        let proper = order_proper (sheet_table s) (labels s) ok o (parts (sym b.found ∙ f)).1 in
        (rw (list_rows f, h.count) ok, rw (list_rows f) proper)

    pub list_follows : {α : Arithmetic} → α ≡ arithmetic_of s → (j : ℕ) (u : List ℤ) → v ≡ Fine → u ≡ result_cells α (cells_to n t) n j
        → SheetFollows s o m j (Ok (length o)) t u
    list_follows own j u f e =
        let g = sym b.found ∙ f in
        record { reply = rw g; table = rw g (b.left f); results = rw g (e ∙ rw (own, list_rows f, h.count)) }

    pub list_refused : (j : ℕ) (r : Refusal) (x u : List ℤ) → v ≡ Err r → x ≡ zeros m → u ≡ zeros j → SheetFollows s o m j (Err r) x u
    list_refused j r x u f a c =
        let g = sym b.found ∙ f in
        record { reply = rw g; table = rw g a; results = rw g c }

-- ---- Follow

module _ (s : List ℕ) (o : List ℤ) (m q : ℕ) where
  follow_rows : follow_bad s o m q ≡ or_else (or_else (head_bad s) (follow_buffers s m q)) (sheet_followed s o)
  unfolding follow_bad sheet_followed sheet_planned
  follow_rows =
      let c = cycle_bad (sheet_table s) (labels s) in
      let l = order_bad (sheet_table s) (labels s) o in
      let h = or_else (head_bad s) (follow_buffers s m q) in
      rw (all_rows s (follow_buffers s m q)) (or_all h (sheet_planned s) l ∙ ap (or_else h) (or_all (sheet_bad s) c l))

  follow_leaves : (v : Verdict) (r : Reply) (t u : List ℤ) → follow_bad s o m q ≡ v → FollowBy v s o m q r t u → FollowLeaves s o m q r t u
  unfolding follow_reply follow_table follow_results
  follow_leaves v r t u f k =
      let g : r ≡ reply_of (follow_bad s o m q) (length o) = rw f k.reply in
      record {
        reply = g;
        table = rw f k.table;
        results = rw f k.results;
        accepts = λ z y. rw g (follow_accepts s o m q z y);
      }

  -- rows 1 to 4 replied x
  module _ (x : Reply) (e : x ≡ head_reply s (follow_buffers s m q)) where
    pub follow_ready : (k : ℕ) → x ≡ Ok k → Passed s k × (8 * k ≤ m) × (3 * k ≤ q)
    follow_ready k f =
        let h = ready s m (results_short s q) x e k f in
        (h.0, h.1, rw h.0.count (results_room s q h.2))

    pub follow_answered : (k : ℕ) (r : Reply) (t u : List ℤ) → x ≡ Ok k → SheetFollows s o m q r t u → FollowLeaves s o m q r t u
    follow_answered k r t u f =
        let h = opened s (follow_buffers s m q) x e k f in
        follow_leaves (sheet_followed s o) r t u (follow_rows ∙ rw (h.0.head, h.1))

    pub follow_refused : (i : Refusal) (t u : List ℤ) → x ≡ Err i → t ≡ zeros m → u ≡ zeros q → FollowLeaves s o m q (Err i) t u
    follow_refused i t u f a b =
        follow_leaves (Err i) (Err i) t u (follow_rows ∙ rw (shut s (follow_buffers s m q) x e i f))
        (record { reply = refl; table = a; results = b })
