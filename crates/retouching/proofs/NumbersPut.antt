-- Order 4: "the final results are those of Run on the sheet with the numbers put in, row 1's length limit left aside".
use mathlib.Core.Path.{◌≡◌, refl, ap, sym, ◌∙◌, fun_ext}
use mathlib.Core.List.{List, ◌++◌}
use Prim.Native.Nat.{ℕ, zero, suc, ◌+◌, ◌-◌, ◌*◌, ◌≤◌, ◌<◌}
use native.Mathlib.Omega.{arith}
use native.Mathlib.Decide.{dec_le}
use lib.IntN.{ℤ, pos}
use lib.ListN.{length, get_or, set}
use lib.Seq.{set-get_or, set_comm, set-append_left}
use borrow.Author.Tests.{le-leb, eq-eqb}
use Rattle.kinds.specs.Kinds.{number_code}
use Rattle.cells.specs.Cells.{int_at, zeros}
use Rattle.cells.specs.Accepted.{Accepted}
use Rattle.cells.specs.Characters.{newline}
use Rattle.cells.specs.Limits.{size_limit, label_limit}
use Rattle.cells.specs.Table.{kind, name_start, owner, with_column, with_number}
use Rattle.cells.proofs.Table.{cell_past}
use Rattle.cells.proofs.Columns.{column_length, column_over, column_other}
use Rattle.refusals.specs.Refusal.{Fine}
use Rattle.refusals.proofs.OrElse.{both_fine}
use Rattle.lines.specs.Lines.{is_text, labels, head_bad, tie_of, arithmetic_of}
use Rattle.lines.proofs.Heads.{headed, named_first}
use Rattle.order.specs.Order.{Answer, plan, order_of}
use Rattle.order.specs.Rows16to18.{cycle_bad}
use Rattle.reading.specs.Read.{table_short, sheet_bad, sheet_table, Reads, table_of}
use Rattle.reading.specs.AnyLength.{ReadsAtAnyLength}
use Rattle.reading.proofs.Accepted.{any_accepted, any_length, read_accepted, read_length}
use Rattle.evaluation.specs.declared.Value.{Value}
use Rattle.numbers.specs.declared.Arithmetic.{Arithmetic}
use Rattle.numbers.specs.declared.Tie.{Tie}
use Rattle.numbers.specs.Arithmetic.{rounding_by}
use Rattle.figures.specs.Figures.{buffer_of, figures, result_cells}
use Rattle.sheets.specs.NumberPut.{NumberPut}
use Rattle.sheets.proofs.NumberPut.{figures_starts, number_put_lem}
use Rattle.calls.specs.Buffers.{plan_short, results_short, run_buffers}
use Rattle.calls.specs.Plan.{planned_bad, plan_of, answer_by, listed_by}
use Rattle.calls.specs.Run.{results_by, run_bad, run_reply, run_table, run_plan, run_results}
use Rattle.calls.proofs.Answers.{cycle_of, cycle_of_lem}
use Rattle.calls.proofs.Rooms.{results_room, run_rooms}
use Rattle.calls.proofs.Followed.{planned_proper}
use Rattle.calls.proofs.Sheets.{planned_reads, reads_planned}
use Rattle.redoing.specs.Pairs.{pair_count, pair_label, pair_number, PairRight, PairsRight, with_pairs}
use Rattle.redoing.specs.PairRedone.{PairRedone}
use Rattle.redoing.proofs.Numbers.{number_length}
use Rattle.redoing.proofs.EveryPair.{pairs_structure, every_pair}
use Rattle.retouching.specs.Retouch.{changes_short, retouch_buffers, pairs_bad, retouch_bad, retouched, retouch_reply, retouch_table, retouch_plan, retouch_results}
use Rattle.retouching.specs.NumbersPut.{numbers_put, RunOfPut}
use Rattle.retouching.proofs.Rows.{pairs_right}

-- ---- the length limit

pub reads_any : (s : List ℕ) → Reads s → ReadsAtAnyLength s
reads_any s e =
    let a = both_fine (head_bad s) (sheet_bad s) e in
    let h = headed s a.0 in
    record { head = record { some = h.some; ends = h.ends; allowed = h.allowed; first = h.first; low = h.low; high = h.high }; sheet = a.1 }

pub any_reads : (s : List ℕ) → ReadsAtAnyLength s → length s ≤ size_limit → Reads s
unfolding head_bad is_text
any_reads s r h =
    let k = r.head in
    rw (
      le-leb 1 (length s) k.some,
      le-leb (length s) size_limit h,
      eq-eqb (get_or s (length s - 1) 0) newline k.ends,
      k.allowed,
      named_first s k.first,
      le-leb 1 (labels s) k.low,
      le-leb (labels s) label_limit k.high,
    ) r.sheet

accepted : (s : List ℕ) → ReadsAtAnyLength s → Accepted (sheet_table s) (labels s)
accepted s r = any_accepted s r.head.low r.head.high r.sheet

-- ---- the byte starts and the numbers are different cells

start_number : (f : ℕ → ℕ) (n l : ℕ) (z : ℤ) (t : List ℤ) → with_number l z (with_column 1 f n t) ≡ with_column 1 f n (with_number l z t)
start_number f n zero z t = refl
start_number f zero (suc l) z t = refl
start_number f (suc k) (suc l) z t =
    set_comm (with_column 1 f k t) (8 * k + 1) (8 * l + 3) (pos (f (suc k))) z (λ e. omega arith)
    ∙ ap (λ (w : List ℤ). set w (8 * k + 1) (pos (f (suc k)))) (start_number f k (suc l) z t)

-- a column that stands there already
column_stands : (j : ℕ) (f : ℕ → ℕ) (n : ℕ) (t : List ℤ) → ((k : ℕ) → k < n → int_at t (8 * k + j) ≡ pos (f (suc k))) → with_column j f n t ≡ t
column_stands j f zero t h = refl
column_stands j f (suc k) t h =
    ap (λ (w : List ℤ). set w (8 * k + j) (pos (f (suc k)))) (column_stands j f k t (λ i l. h i (omega arith)))
    ∙ ap (set t (8 * k + j)) (sym (h k (omega arith)))
    ∙ set-get_or t (8 * k + j) (pos 0)

-- a column of a table that stands before other cells
column_before : (j : ℕ) (f : ℕ → ℕ) (n : ℕ) (t z : List ℤ) → j < 8 → 8 * n ≤ length t → with_column j f n (t ++ z) ≡ with_column j f n t ++ z
column_before j f zero t z h g = refl
column_before j f (suc k) t z h g =
    ap (λ (w : List ℤ). set w (8 * k + j) (pos (f (suc k)))) (column_before j f k t z h (omega arith))
    ∙ set-append_left (with_column j f k t) z (8 * k + j) (pos (f (suc k))) (omega (arith, column_length j f k t))

-- ---- the table with the first k pairs' numbers

-- put into an N line of a table of n labels that stands before other cells
number_before : (l : ℕ) (z : ℤ) (t y : List ℤ) (n : ℕ) → length t ≡ 8 * n → kind t l ≡ number_code → with_number l z (t ++ y) ≡ with_number l z t ++ y
number_before zero z t y n g e = refl
number_before (suc k) z t y n g e = set-append_left t y (8 * k + 3) z (go (dec_le (suc k) n))
  where
    go : Dec (suc k ≤ n) → 8 * k + 3 < length t
    go (yes h) = omega arith
    go (no h) = absurd (omega (arith, e, cell_past t (suc k) 0 (omega (arith, g, h))))

module _ (ps t : List ℤ) where
  pairs_length : (k : ℕ) → length (with_pairs ps k t) ≡ length t
  pairs_length zero = refl
  pairs_length (suc k) = number_length (with_pairs ps k t) (pair_label ps (suc k)) (pair_number ps (suc k)) ∙ pairs_length k

  -- put into a table of n labels that stands before other cells
  pairs_before : (n : ℕ) (z : List ℤ) → length t ≡ 8 * n → (k : ℕ) → ((i : ℕ) → 1 ≤ i → i ≤ k → PairRight t ps i)
      → with_pairs ps k (t ++ z) ≡ with_pairs ps k t ++ z
  pairs_before n z g zero h = refl
  pairs_before n z g (suc k) h =
      let l = pair_label ps (suc k) in
      ap (with_number l (pair_number ps (suc k))) (pairs_before n z g k (λ i a b. h i a (omega arith)))
      ∙ number_before l (pair_number ps (suc k)) (with_pairs ps k t) z n (pairs_length k ∙ g) ((pairs_structure ps t k).kinds l ∙ (h (suc k) (omega arith) (omega arith)).line)

-- ---- in turn

-- what holds of a text r that is s with the first k pairs' numbers put in
pub record PutUpTo (s : List ℕ) (ps : List ℤ) (k : ℕ) (r : List ℕ) : Type 0 where
  pub reads : ReadsAtAnyLength r
  pub count : labels r ≡ labels s
  pub table : sheet_table r ≡ with_column 1 (name_start (sheet_table r)) (labels s) (with_pairs ps k (sheet_table s))
  pub order : plan (sheet_table r) (labels r) ≡ plan (sheet_table s) (labels s)
  pub tie : tie_of r ≡ tie_of s
  pub results : (α : Arithmetic) (v : ℕ) → figures α (sheet_table r) (labels r) v ≡ figures α (with_pairs ps k (sheet_table s)) (labels s) v

-- the byte starts that stand there, written over themselves
starts_own : (s : List ℕ) → ReadsAtAnyLength s → sheet_table s ≡ with_column 1 (name_start (sheet_table s)) (labels s) (sheet_table s)
starts_own s r =
    sym (column_stands 1 (name_start (sheet_table s)) (labels s) (sheet_table s) (λ k h.
    let q : 8 * (suc k - 1) + 1 ≡ 8 * k + 1 = omega arith in
    rw q at ((accepted s r).natural (suc k) 1 (omega arith) h (omega arith) (λ e g. omega arith))))

module _ (s : List ℕ) (ps : List ℤ) (reads : ReadsAtAnyLength s) (k : ℕ) (u : List ℕ) (v : PutUpTo s ps k u) where
  kind_kept : (l : ℕ) → kind (sheet_table u) l ≡ kind (sheet_table s) l
  kind_kept l =
      ap (λ (t : List ℤ). kind t l) v.table
      ∙ column_other 1 (name_start (sheet_table u)) (omega arith) (labels s) (with_pairs ps k (sheet_table s)) l 0 (omega arith) (λ e. omega arith)
      ∙ (pairs_structure ps (sheet_table s) k).kinds l

  module _ (r : List ℕ) (w : NumberPut u (pair_label ps (suc k)) (pair_number ps (suc k)) r) where
    abbrev n : ℕ
    n = labels s

    abbrev f : ℕ → ℕ
    f l = name_start (sheet_table r) l

    abbrev g : ℕ → ℕ
    g l = name_start (sheet_table u) l

    abbrev put : List ℤ → List ℤ
    put t = with_number (pair_label ps (suc k)) (pair_number ps (suc k)) t

    abbrev next : List ℤ
    next = with_pairs ps (suc k) (sheet_table s)

    room : 8 * n ≤ length next
    room = omega (arith, pairs_length ps (sheet_table s) (suc k), any_length s reads.head.low reads.head.high reads.sheet)

    next_table : sheet_table r ≡ with_column 1 f n next
    next_table =
        w.table
        ∙ ap (λ (m : ℕ). with_column 1 f m (put (sheet_table u))) v.count
        ∙ ap (λ (t : List ℤ). with_column 1 f n (put t)) v.table
        ∙ ap (with_column 1 f n) (start_number g n (pair_label ps (suc k)) (pair_number ps (suc k)) (with_pairs ps k (sheet_table s)))
        ∙ column_over 1 g f n next (omega arith) room

    next_put : PutUpTo s ps (suc k) r
    next_put = record {
      reads = w.reads;
      count = w.count ∙ v.count;
      table = next_table;
      order = w.order ∙ v.order;
      tie = w.tie ∙ v.tie;
      results = λ α x.
          ap (λ (m : ℕ). figures α (sheet_table r) m x) (w.count ∙ v.count)
          ∙ ap (λ (t : List ℤ). figures α t n x) next_table
          ∙ figures_starts α f n next n x;
    }

pub numbers_put_lem : (s : List ℕ) (ps : List ℤ) → ReadsAtAnyLength s
    → (k : ℕ) → ((i : ℕ) → 1 ≤ i → i ≤ k → PairRight (sheet_table s) ps i) → PutUpTo s ps k (numbers_put s ps k)
numbers_put_lem s ps reads zero h = record { reads = reads; count = refl; table = starts_own s reads; order = refl; tie = refl; results = λ α v. refl }
numbers_put_lem s ps reads (suc k) h =
    let u = numbers_put s ps k in
    let v = numbers_put_lem s ps reads k (λ i a b. h i a (omega arith)) in
    let p = h (suc k) (omega arith) (omega arith) in
    let l = pair_label ps (suc k) in
    next_put s ps reads k u v (numbers_put s ps (suc k))
    (number_put_lem u l (pair_number ps (suc k)) v.reads (kind_kept s ps reads k u v l ∙ p.line) p.number)

-- ---- where Retouch answers

module _ (s : List ℕ) (ps : List ℤ) (m p q w : ℕ) (e : retouch_bad s ps m p q w ≡ Fine) where
  rows : (planned_bad s (retouch_buffers s ps m p q w) ≡ Fine) × (pairs_bad (sheet_table s) ps ≡ Fine)
  unfolding retouch_bad
  rows = both_fine (planned_bad s (retouch_buffers s ps m p q w)) (pairs_bad (sheet_table s) ps) e

  right : PairsRight (sheet_table s) ps
  right = pairs_right (sheet_table s) ps rows.1

  opened : Reads s × (retouch_buffers s ps m p q w ≡ Fine) × (cycle_bad (sheet_table s) (labels s) ≡ Fine)
  opened = planned_reads s (retouch_buffers s ps m p q w) rows.0

  long : run_buffers s m p q ≡ Fine
  long = (both_fine (run_buffers s m p q) (changes_short ps w) opened.1).0

  -- so does Run
  runs : run_bad s m p q ≡ Fine
  unfolding run_bad
  runs = reads_planned s (run_buffers s m p q) opened.0 long ∙ opened.2

  -- "It answers as Run does; table and plan are Run's"
  pub retouch_as_run : (retouch_reply s ps m p q w ≡ run_reply s m p q) × (retouch_plan s ps m p q w ≡ run_plan s m p q)
  unfolding retouch_reply retouch_plan run_reply run_plan
  retouch_as_run = (rw (e, runs), rw (e, runs))

  -- "but cell a shows each new number"
  pub retouch_table_lem : retouch_table s ps m p q w ≡ with_pairs ps (pair_count ps) (run_table s m p q)
  unfolding retouch_table retouched run_table
  retouch_table_lem =
      rw (e, runs)
      (sym (pairs_before ps (sheet_table s) (labels s) (zeros (m - 8 * labels s)) (read_length s opened.0) (pair_count ps) right))

  -- "After each pair": the values that are worked out again, of each pair of the list
  pub each_pair_redone : (k : ℕ) → k < pair_count ps
      → PairRedone (arithmetic_of s) (with_pairs ps k (sheet_table s)) (with_pairs ps (suc k) (sheet_table s)) (labels s) (owner (sheet_table s) (pair_label ps (suc k))) (order_of (plan_of s)) q
  unfolding plan_of
  each_pair_redone k h =
      let ok = read_accepted s opened.0 in
      every_pair ps (sheet_table s) (labels s) ok (arithmetic_of s) (order_of (plan (sheet_table s) (labels s))) (planned_proper (sheet_table s) (labels s) ok opened.2) q
      (results_room s q (run_rooms s m p q long).2) k (λ i a b. right i a (omega arith))

  any : ReadsAtAnyLength s
  any = reads_any s opened.0

  abbrev r : List ℕ
  r = numbers_put s ps (pair_count ps)

  all : PutUpTo s ps (pair_count ps) (numbers_put s ps (pair_count ps))
  all = numbers_put_lem s ps any (pair_count ps) right

  abbrev final : List ℤ
  final = with_pairs ps (pair_count ps) (sheet_table s)

  abbrev starts : ℕ → ℕ
  starts l = name_start (sheet_table r) l

  -- ---- Run's definitions, of the text with the numbers put in

  reply_put : retouch_reply s ps m p q w ≡ answer_by Fine (plan_of r)
  unfolding retouch_reply plan_of
  reply_put = rw e (ap (answer_by Fine) (sym all.order))

  plan_put : retouch_plan s ps m p q w ≡ listed_by Fine (plan_of r) p
  unfolding retouch_plan plan_of
  plan_put = rw e (ap (λ (a : Answer). listed_by Fine a p) (sym all.order))

  results_put : retouch_results s ps m p q w ≡ results_by Fine r q
  unfolding retouch_results retouched
  results_put =
      rw e
      (sym (ap (λ (f : ℕ → Value). buffer_of f (labels r) q) (fun_ext (all.results (arithmetic_of r)))
      ∙ ap (λ (n : ℕ). buffer_of (figures (arithmetic_of r) final (labels s)) n q) all.count
      ∙ ap (λ (tie : Tie). result_cells (rounding_by tie) final (labels s) q) all.tie))

  table_put : table_of Fine r m ≡ with_column 1 starts (labels s) (retouch_table s ps m p q w)
  unfolding retouch_table retouched
  table_put =
      rw e
      (ap (λ (n : ℕ). sheet_table r ++ zeros (m - 8 * n)) all.count
      ∙ ap (λ (t : List ℤ). t ++ zeros (m - 8 * labels s)) all.table
      ∙ sym (column_before 1 starts (labels s) final (zeros (m - 8 * labels s)) (omega arith) room))
    where
      room : 8 * labels s ≤ length final
      room = omega (arith, pairs_length ps (sheet_table s) (pair_count ps), read_length s opened.0)

  -- ---- Run itself, where that text is no longer than row 1 allows

  long_put : run_buffers r m p q ≡ Fine
  unfolding table_short plan_short results_short
  long_put = rw all.count long

  cycles_put : cycle_bad (sheet_table r) (labels r) ≡ Fine
  cycles_put =
      cycle_of_lem (sheet_table r) (labels r) (accepted r all.reads)
      ∙ ap cycle_of all.order
      ∙ sym (cycle_of_lem (sheet_table s) (labels s) (accepted s any))
      ∙ opened.2

  runs_put : length r ≤ size_limit → run_bad r m p q ≡ Fine
  unfolding run_bad
  runs_put h = reads_planned r (run_buffers r m p q) (any_reads r all.reads h) long_put ∙ cycles_put

  pub run_of_put : RunOfPut s ps m p q w (numbers_put s ps (pair_count ps))
  unfolding run_reply run_plan run_results run_table
  run_of_put = record {
    reads = all.reads;
    tie = all.tie;
    count = all.count;
    reply = reply_put;
    plan = plan_put;
    results = results_put;
    table = table_put;
    run_reply_lem = λ h. rw (runs_put h) (sym reply_put);
    run_plan_lem = λ h. rw (runs_put h) (sym plan_put);
    run_results_lem = λ h. rw (runs_put h) (sym results_put);
    run_table_lem = λ h. rw (runs_put h) table_put;
  }
