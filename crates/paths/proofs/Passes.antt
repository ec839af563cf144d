-- The passes: what each keeps from label to label. Rows 13 and 14 write the column of targets as they go.
use mathlib.Core.Path.{◌≡◌, refl, ap, sym, ◌∙◌}
use mathlib.Core.Bool.{Bool, true, false, cond, ◌&&◌}
use mathlib.Core.List.{List, []}
use Prim.Native.Nat.{ℕ, zero, suc, ◌+◌, ◌-◌, ◌*◌, ◌≤◌, ◌<◌}
use native.Mathlib.Omega.{arith}
use lib.Dec.{eqb}
use lib.IntN.{ℤ, pos}
use lib.ListN.{length, set, drop}
use Rattle.std.specs.Prelude.{Option, Some, None, is_none, Err}
use Rattle.std.specs.Option.{unwrap_or}
use Rattle.refusals.specs.declared.Row.{Row}
use Rattle.refusals.specs.declared.Refusal.{Refusal}
use Rattle.cells.specs.Cells.{nat_of}
use Rattle.cells.specs.Table.{owner, target, with_column, has_path}
use Rattle.cells.proofs.Columns.{column_keeps, column_length}
use Rattle.refusals.specs.Rows.{head_row, later_row}
use Rattle.refusals.specs.Refusal.{Verdict, Fine, Refused, first_bad}
use Rattle.refusals.proofs.FirstBad.{first_start, first_fine, first_bad_lem, first_end}
use Rattle.text.specs.Pieces.{first_of}
use Rattle.paths.specs.Paths.{descended, names_of, head_of, target_of, target_cell, path_head_bad, later_bad}
use Rattle.paths.specs.Buckets.{some_label}
use Rattle.paths.specs.TargetCells.{head_cell, target_by}
use Rattle.paths.proofs.Alike.{Alike, column_alike, path_alike, target_by_alike}
use Rattle.paths.proofs.SomeLabel.{none_is, or_found}
use Rattle.paths.proofs.Resolving.{head_high, descended_high}

pub not_fine : {X : Type 0} {e : Refusal} → ◌≡◌ {A = Verdict} (Err e) Fine → X
not_fine z = absurd cc

-- ---- a pass has come to the label

pub record Pass (check : ℕ → Option Row) (n label : ℕ) : Type 0 where
  pub low : 1 ≤ label
  pub high : label ≤ n + 1
  pub found : first_bad check label (n + 1 - label) ≡ first_bad check 1 n

pub pass_start : (check : ℕ → Option Row) (n : ℕ) → Pass check n 1
pass_start check n = record { low = omega arith; high = omega arith; found = first_start check n }

module _ {check : ℕ → Option Row} {n label : ℕ} (p : Pass check n label) where
  pub pass_turn : label ≤ n → check label ≡ None → Pass check n (label + 1)
  pass_turn m z = record { low = omega arith; high = omega arith; found = sym (first_fine check n label m z) ∙ p.found }

  -- the refusal e is by the row that the check gives, at the label
  pub pass_stop : {row : Row} {e : Refusal} → label ≤ n → Some row ≡ check label → (e.row ≡ row) × (e.place ≡ label) → Err e ≡ first_bad check 1 n
  pass_stop {row} {e} m c q =
      let told : ◌≡◌ {A = Verdict} (Err e) (Refused row label) = ap (λ (r : Row). Refused r e.place) q.0 ∙ ap (Refused row) q.1 in
      told ∙ sym (first_bad_lem check n label row m (sym c)) ∙ p.found

  pub pass_done : n < label → Fine ≡ first_bad check 1 n
  pass_done m = sym (first_end check n label m) ∙ p.found

-- ---- a pass that writes a column of the table t₀ as it goes, up to the label

-- one label more of a column
column_next : (f : ℕ → ℕ) (l : ℕ) (t : List ℤ) → 1 ≤ l → set (with_column 7 f (l - 1) t) (8 * (l - 1) + 7) (pos (f l)) ≡ with_column 7 f l t
column_next f zero t h = absurd (omega arith)
column_next f (suc k) t h = let e : suc k - 1 ≡ k = omega arith in rw e

-- a cell of the column that is not written yet
column_later : (f : ℕ → ℕ) (k l : ℕ) (t : List ℤ) → k < l → target (with_column 7 f k t) l ≡ target t l
column_later f k zero t h = absurd (omega arith)
column_later f k (suc l) t h = ap nat_of (column_keeps 7 f (omega arith) k t (8 * l + 7) (λ i m q. omega arith))

pub record Settling (check : ℕ → Option Row) (cell : ℕ → ℕ) (n : ℕ) (t₀ : List ℤ) (label : ℕ) (t : List ℤ) : Type 0 where
  pub pass : Pass check n label
  pub table : t ≡ with_column 7 cell (label - 1) t₀

pub settle_start : (check : ℕ → Option Row) (cell : ℕ → ℕ) (n : ℕ) (t₀ : List ℤ) → Settling check cell n t₀ 1 t₀
settle_start check cell n t₀ = record { pass = pass_start check n; table = refl }

module _ {check : ℕ → Option Row} {cell : ℕ → ℕ} {n : ℕ} {t₀ : List ℤ} {label : ℕ} {t : List ℤ} (g : Settling check cell n t₀ label t) where
  pub settle_size : length t ≡ length t₀
  settle_size = ap length g.table ∙ column_length 7 cell (label - 1) t₀

  pub settle_alike : Alike t₀ t
  settle_alike = rw g.table (column_alike cell (label - 1) t₀)

  pub settle_later : target t label ≡ target t₀ label
  settle_later = let h = g.pass.low in ap (λ (u : List ℤ). target u label) g.table ∙ column_later cell (label - 1) label t₀ (omega arith)

  pub settle_all : n < label → t ≡ with_column 7 cell n t₀
  settle_all m = let q : label - 1 ≡ n = omega (arith, g.pass.high) in g.table ∙ ap (λ (k : ℕ). with_column 7 cell k t₀) q

  -- what is found at the label, v, is put into its cell, and a line whose path came to nothing is refused
  module _ {v : ℕ} (same : v ≡ cell label) {o : Option ℕ} (e : o ≡ some_label v) {t' : List ℤ} (w : t' ≡ set t (8 * (label - 1) + 7) (pos (unwrap_or o 0))) where
    written : t' ≡ with_column 7 cell label t₀
    written = w ∙ rw (or_found e, same) (ap (λ (u : List ℤ). set u (8 * (label - 1) + 7) (pos (cell label))) g.table) ∙ column_next cell label t₀ g.pass.low

    pub settle_kept : length t' ≡ length t₀
    settle_kept = ap length written ∙ column_length 7 cell label t₀

    -- what is said of it
    module _ (row : Row) (rule : (x : ℕ) → check x ≡ cond (has_path t₀ x && eqb (cell x) 0) (Some row) None)
        {r : Verdict} (told : r ≡ cond (has_path t' label && is_none o) (Refused row label) Fine) (m : label ≤ n) where
      checked : cond (has_path t' label && is_none o) (Some row) None ≡ check label
      checked =
          rw (written, path_alike [] t₀ (with_column 7 cell label t₀) (column_alike cell label t₀) label, e, same, none_is (cell label)) (sym (rule label))

      pub settle_turn : r ≡ Fine → Settling check cell n t₀ (label + 1) t'
      settle_turn f =
          let q : label + 1 - 1 ≡ label = omega arith in
          record { pass = pass_turn g.pass m (go (has_path t' label && is_none o) checked told); table = written ∙ rw q }
        where
          go : (b : Bool) → cond b (Some row) None ≡ check label → r ≡ cond b (Refused row label) Fine → check label ≡ None
          go true c d = not_fine (sym d ∙ f)
          go false c d = sym c

      pub settle_stop : {x : Refusal} → r ≡ Err x → ◌≡◌ {A = Verdict} (Err x) (first_bad check 1 n)
      settle_stop {x} f = go (has_path t' label && is_none o) checked told
        where
          go : (b : Bool) → cond b (Some row) None ≡ check label → r ≡ cond b (Refused row label) Fine → ◌≡◌ {A = Verdict} (Err x) (first_bad check 1 n)
          go true c d = sym f ∙ d ∙ pass_stop g.pass m c (refl, refl)
          go false c d = not_fine (sym f ∙ d)

-- ---- rows 13 and 14: a line with a path whose cell is 0

cell_go : (row : Row) (v : ℕ) (h : Bool) → cond (h && eqb v 0) (Some row) None ≡ cond (h && eqb (cond h v 0) 0) (Some row) None
cell_go row v true = refl
cell_go row v false = refl

module _ (s : List ℕ) (t : List ℤ) (n x : ℕ) where
  pub head_rule : path_head_bad s t n x ≡ cond (has_path t x && eqb (head_cell s t n x) 0) (Some head_row) None
  unfolding path_head_bad
  head_rule = cell_go head_row (head_of s t n x) (has_path t x)

  pub later_rule : later_bad s t n x ≡ cond (has_path t x && eqb (target_cell s t n x) 0) (Some later_row) None
  unfolding later_bad
  later_rule = cell_go later_row (target_of s t n x) (has_path t x)

  high_go : (h : Bool) (v : ℕ) → v ≤ n → cond h v 0 ≤ n
  high_go true v g = g
  high_go false v g = omega arith

  pub head_cell_high : head_cell s t n x ≤ n
  unfolding head_of
  head_cell_high = high_go (has_path t x) (head_of s t n x) (head_high s t n (first_of (names_of s t x)) (owner t (owner t x)))

  pub target_by_high : (head : ℕ) → head ≤ n → target_by s t n x head ≤ n
  target_by_high head h = high_go (has_path t x) (descended s t n head (drop 1 (names_of s t x))) (descended_high s t n (drop 1 (names_of s t x)) head h)

  -- the target from the head that the cell holds
  from_go : (h : Bool) (head : ℕ) (ws : List (List ℕ)) → cond h (descended s t n (cond h head 0) ws) 0 ≡ cond h (descended s t n head ws) 0
  from_go true head ws = refl
  from_go false head ws = refl

  target_from : target_by s t n x (head_cell s t n x) ≡ target_cell s t n x
  unfolding target_of
  target_from = from_go (has_path t x) (head_of s t n x) (drop 1 (names_of s t x))

  pub target_now : (u : List ℤ) → Alike t u → {head : ℕ} → head ≡ head_cell s t n x → target_by s u n x head ≡ target_cell s t n x
  target_now u a {head} e = target_by_alike s t u a n x head ∙ ap (target_by s t n x) e ∙ target_from
