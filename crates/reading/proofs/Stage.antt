-- Rows 1 to 7 have run, and the others follow: reply and table, case by case.
use mathlib.Core.Path.{◌≡◌, refl, ap, sym, ◌∙◌}
use Rattle.std.specs.Prelude.{Ok, Err}
use Rattle.refusals.specs.declared.Refusal.{Refusal}
use mathlib.Core.List.{List, ◌++◌}
use Prim.Native.Nat.{ℕ, ◌-◌, ◌*◌, ◌≤◌, ◌<◌}
use native.Mathlib.Omega.{arith}
use lib.IntN.{ℤ}
use lib.ListN.{length, drop}
use lib.Seq.{take_at}
use borrow.Author.Tests.{le-leb, lt-leb}
use Rattle.cells.specs.Cells.{zeros}
use Rattle.cells.specs.Clearing.{clear_from}
use Rattle.cells.proofs.Clearing.{clear_split}
use Rattle.refusals.specs.Rows.{buffers_row}
use Rattle.refusals.specs.Refusal.{reply_of, Verdict, Fine, Refused, Reply}
use Rattle.lines.specs.Lines.{labels, head_bad, lines_bad, lines_cells}
use Rattle.lines.specs.LineSteps.{passed, lines_written}
use Rattle.lines.proofs.Pass.{rows_length, written_length}
use Rattle.lines.specs.Lined.{lined_table, Lined}
use Rattle.reading.specs.Read.{table_short, sheet_bad, sheet_table, read_bad, read_reply, read_table, table_of, ReadLeaves}
use Rattle.reading.specs.ReadStages.{Passed, Judged, Resolves, SheetReads}
use Rattle.lines.proofs.Heads.{headed}
use Rattle.lines.proofs.Lined.{lined}
use Rattle.reading.proofs.Padding.{sheet_bad_lem, sheet_table_lem}

-- ---- what a reply says of the verdict behind it

pub answered : (v : Verdict) (n m : ℕ) → reply_of v n ≡ Ok m → (v ≡ Fine) × (m ≡ n)
answered (Ok _) n m e = (refl, cc)
answered (Err r) n m e = let z : ◌≡◌ {A = ℕ} 0 1 = cc in absurd (omega arith)

pub refused : (v : Verdict) (n : ℕ) (r : Refusal) → reply_of v n ≡ Err r → v ≡ Err r
refused (Ok _) n r e = let z : ◌≡◌ {A = ℕ} 0 1 = cc in absurd (omega arith)
refused (Err z) n r e = cc

-- rows that refuse leave the table to the caller
pub refused_judged : (wanted : Verdict) (made : List ℤ) (r : Refusal) (t : List ℤ) → Err r ≡ wanted → Judged wanted made (Err r) t
refused_judged wanted made r t e = record {
  found = e;
  left = λ q. let z : ◌≡◌ {A = ℕ} 0 1 = cc in absurd (omega arith);
}

-- ---- rows 5 to 15, after the lines of a table t found v and left u

-- the cells of all labels, and zeros behind them
cleared : (s : List ℕ) (n : ℕ) (t : List ℤ) → 8 * n ≤ length t → clear_from (8 * n) (lines_written s n n t) ≡ lines_cells s n n ++ zeros (length t - 8 * n)
cleared s n t h =
    let l = written_length s n n t h in
    clear_split (lines_written s n n t) (8 * n) (omega arith)
    ∙ rw (take_at (lines_cells s n n) (drop (8 * n) t) (8 * n) (rows_length s n n), l)

module _ (s : List ℕ) (n : ℕ) (t u : List ℤ) (v : Verdict) (is : n ≡ labels s) (room : 8 * n ≤ length t) (found : v ≡ lines_bad s n) where
  lines_are : lines_bad s (labels s) ≡ v
  lines_are = ap (lines_bad s) (sym is) ∙ sym found

  pub table_lined : v ≡ Fine → u ≡ lines_written s n (passed v n) t → clear_from (8 * n) u ≡ lined_table s (length t)
  unfolding lined_table
  table_lined e w = rw (← is) (ap (clear_from (8 * n)) (w ∙ ap (λ (x : Verdict). lines_written s n (passed x n) t) e) ∙ cleared s n t room)

  pub lined_left : (x : List ℤ) → head_bad s ≡ Fine → v ≡ Fine → u ≡ lines_written s n (passed v n) t → x ≡ clear_from (8 * n) u → Lined s x n
  lined_left x h f w e = rw (e ∙ table_lined f w, is) (lined s (length t) (headed s h).low (headed s h).high (lines_are ∙ f) (omega arith))

  pub sheet_resolved : (x y : List ℤ) (r : Verdict) → v ≡ Fine → u ≡ lines_written s n (passed v n) t → x ≡ clear_from (8 * n) u
      → Resolves s x n r y → SheetReads s (length t) r y
  unfolding sheet_bad sheet_table
  sheet_resolved x y r f w e b =
      let q = e ∙ table_lined f w in
      record {
        found = rw (lines_are ∙ f) (b.found ∙ rw (q, is) (sheet_bad_lem s (length t)));
        left = λ z. b.left z ∙ rw (q, is) (sheet_table_lem s (length t));
      }

  pub sheet_refused : (r : Refusal) (y : List ℤ) → v ≡ Err r → SheetReads s (length t) (Err r) y
  unfolding sheet_bad
  sheet_refused r y f = refused_judged _ _ r y (rw (lines_are ∙ f))

-- ---- rows 1 to 3, and row 4

-- rows 1 to 3 replied q
module _ (s : List ℕ) (q : Reply) (e : q ≡ reply_of (head_bad s) (labels s)) where
  pub head_passed : (k : ℕ) → q ≡ Ok k → Passed s k
  head_passed k f =
      let a = answered (head_bad s) (labels s) k (sym e ∙ f) in
      record { head = a.0; count = a.1; few = omega (arith, a.1, (headed s a.0).high) }

module _ (s : List ℕ) (m : ℕ) where
  -- reply r and table t of what rows 1 to 15 found
  leaves : (v : Verdict) (r : Reply) (t : List ℤ) → read_bad s m ≡ v → r ≡ reply_of v (labels s) → t ≡ table_of v s m → ReadLeaves s m r t
  unfolding read_reply read_table
  leaves v r t e f g = record { reply = rw e f; table = rw e g }

  pub head_refused : (q : Reply) → q ≡ reply_of (head_bad s) (labels s) → (r : Refusal) (t : List ℤ) → q ≡ Err r → t ≡ zeros m
      → ReadLeaves s m (Err r) t
  unfolding read_bad
  head_refused q e r t f g = leaves (Err r) _ t (rw (refused (head_bad s) (labels s) r (sym e ∙ f))) refl g

  module _ (n : ℕ) (h : Passed s n) where
    pub table_short_lem : (t : List ℤ) → m < 8 * n → t ≡ zeros m → ReadLeaves s m (Refused buffers_row 1) t
    unfolding read_bad table_short
    table_short_lem t g e = leaves (Refused buffers_row 1) _ t (rw (h.head, lt-leb (8 * labels s) m (omega (arith, h.count)))) refl e

    -- the table is long enough; rows 5 to 15 found v and left t
    module _ (room : 8 * n ≤ m) (v : Verdict) (t : List ℤ) (b : SheetReads s m v t) where
      rows_are : read_bad s m ≡ v
      unfolding read_bad table_short
      rows_are = rw (h.head, le-leb (8 * labels s) m (omega (arith, h.count))) (sym b.found)

      pub sheet_leaves : v ≡ Fine → ReadLeaves s m (Ok n) t
      sheet_leaves e = leaves Fine _ t (rows_are ∙ e) (ap Ok h.count) (b.left e)

      pub refused_leaves : (r : Refusal) (w : List ℤ) → v ≡ Err r → w ≡ zeros m → ReadLeaves s m (Err r) w
      refused_leaves r w e g = leaves (Err r) _ w (rows_are ∙ e) refl g
