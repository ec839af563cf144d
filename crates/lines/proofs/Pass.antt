-- The pass down the lines: what one step says of its line, and what the loop keeps.
use mathlib.Core.Path.{◌≡◌, refl, ap, sym, ◌∙◌}
use mathlib.Core.List.{List, [], ◌∷◌, ◌++◌}
use mathlib.Core.Bool.{Bool, true, false, cond}
use Prim.Native.Nat.{ℕ, zero, suc, ◌+◌, ◌-◌, ◌*◌, ◌≤◌, ◌<◌}
use native.Mathlib.Nat.{zero-add}
use native.Mathlib.Numerals.{add-one}
use native.Mathlib.Omega.{arith}
use lib.Dec.{eqb, ltb}
use lib.IntN.{ℤ}
use lib.ListN.{length, get_or, set, drop, take, length-append, length-drop, drop_of_length-le}
use lib.Seq.{sets, sets-eq}
use borrow.Rule.Slice.PartMut.{put_mid}
use Rattle.std.proofs.lemmas.Slice.{put_mid-paste}
use borrow.Author.Tests.{ltb-true, ltb-false}
use Rattle.cells.proofs.Stores.{sets_next}
use Rattle.cells.specs.Characters.{newline, space}
use Rattle.refusals.specs.Refusal.{Fine, Refused, first_bad}
use Rattle.refusals.specs.declared.Row.{Row}
use Rattle.std.specs.Prelude.{Option, Some, None, Result, Ok, Err}
use Rattle.refusals.proofs.FirstBad.{first_start, first_fine, first_bad_lem, first_end}
use Rattle.text.specs.Bytes.{count_by, is_newline, ends_lines}
use Rattle.text.specs.Pieces.{cut, piece_start, first_of}
use Rattle.text.specs.Scans.{rest, fields_from}
use Rattle.text.proofs.Slices.{whole}
use Rattle.text.proofs.Cuts.{pieces, place_zero, piece_is, pieces_next, place_next_lem}
use Rattle.text.proofs.Fields.{line_inside, line_next}
use Rattle.lines.specs.Lines.{line, first_line, tie_of, labels, line_bad, line_check, lines_bad, root_cells, field_cells, line_cells, lines_cells}
use Rattle.lines.specs.LineSteps.{line_from, cells_by_fields, root_at, cells_for, eight_cells, decide, line_read, step_of, line_written, lines_written}
use Rattle.lines.specs.declared.LineCells.{LineCells}
use Rattle.lines.proofs.Heads.{Headed}

-- ---- one step

pub record Went (n k : ℕ) (s : List ℕ) (at next : ℕ) : Type 0 where
  pub fine : line_bad n k (line_from s at) ≡ None
  pub is : next ≡ at + length (line_from s at) + 1
  pub cells : (base : ℕ) (t : List ℤ) → line_written (line_read n k s at) base t ≡ sets t base (line_cells n k at (fields_from s at))

pub record Stopped (n k : ℕ) (s : List ℕ) (at : ℕ) (b : Row) : Type 0 where
  pub bad : line_bad n k (line_from s at) ≡ Some b
  pub cells : (base : ℕ) (t : List ℤ) → line_written (line_read n k s at) base t ≡ t

module _ (n k : ℕ) (s : List ℕ) (at : ℕ) where
  abbrev row : LineCells
  row = cells_for n k s at

  -- the cells that the code carries are those of the definition
  row_cells : eight_cells row ≡ line_cells n k at (fields_from s at)
  unfolding field_cells
  row_cells = go (eqb k 1)
    where
      go : (b : Bool) → eight_cells (cond b (root_at s at) (cells_by_fields n s at (fields_from s at))) ≡ cond b root_cells (field_cells n at (fields_from s at))
      go true = refl
      go false = refl

  -- and they end where the line does
  row_end : row.end ≡ at + length (line_from s at)
  row_end = go (eqb k 1)
    where
      go : (b : Bool) → (cond b (root_at s at) (cells_by_fields n s at (fields_from s at))).end ≡ at + length (line_from s at)
      go true = refl
      go false = refl

  pub went : (next : ℕ) → step_of (line_read n k s at) ≡ Ok next → Went n k s at next
  unfolding line_read
  went next e = go (line_bad n k (line_from s at)) refl e
    where
      go : (b : Option Row) → line_bad n k (line_from s at) ≡ b → step_of (decide b row) ≡ Ok next → Went n k s at next
      go None q f =
          let p : row.end + 1 ≡ next = cc in
          record { fine = q; is = sym p ∙ ap (λ (x : ℕ). x + 1) row_end; cells = λ base t. rw q (ap (sets t base) row_cells) }
      go (Some b) q f = absurd cc

  pub stopped : (b : Row) → step_of (line_read n k s at) ≡ Err b → Stopped n k s at b
  unfolding line_read
  stopped b e = go (line_bad n k (line_from s at)) refl e
    where
      go : (x : Option Row) → line_bad n k (line_from s at) ≡ x → step_of (decide x row) ≡ Err b → Stopped n k s at b
      go None q f = absurd cc
      go (Some x) q f = let y : x ≡ b = cc in record { bad = q ∙ ap Some y; cells = λ base t. rw q }

  -- a line that passes ends inside the text
  same_end : (x : LineCells) {r : LineCells} → ◌≡◌ {A = Result LineCells Row} (Ok x) (Ok r) → x.end ≡ r.end
  same_end x {r} f = let q : x ≡ r = cc in ap (λ (y : LineCells). y.end) q

  pub passes_inside : at < length s → ends_lines s → (r : LineCells) → line_read n k s at ≡ Ok r → r.end < length s
  unfolding line_read
  passes_inside h ends r e = go (line_bad n k (line_from s at)) e
    where
      go : (b : Option Row) → decide b row ≡ Ok r → r.end < length s
      go None f = omega (arith, line_inside s at h ends, row_end, same_end row f)
      go (Some b) f = absurd cc

-- ---- the cells written so far

row_length : (n k p : ℕ) (fs : List (List ℕ)) → length (line_cells n k p fs) ≡ 8
unfolding field_cells
row_length n k p fs = go (eqb k 1)
  where
    go : (b : Bool) → length (cond b root_cells (field_cells n p fs)) ≡ 8
    go true = refl
    go false = refl

pub rows_length : (s : List ℕ) (n k : ℕ) → length (lines_cells s n k) ≡ 8 * k
rows_length s n zero = refl
rows_length s n (suc k) =
    omega (
      arith,
      length-append (lines_cells s n k) (line_cells n (suc k) (piece_start (cut newline s) (suc k)) (cut space (line s (suc k)))),
      rows_length s n k,
      row_length n (suc k)
          (piece_start (cut newline s) (suc k)) (cut space (line s (suc k))),
    )

pub written_length : (s : List ℕ) (n k : ℕ) (t : List ℤ) → 8 * k ≤ length t → length (lines_written s n k t) ≡ length t
written_length s n k t h = omega (arith, length-append (lines_cells s n k) (drop (8 * k) t), length-drop (8 * k) t, rows_length s n k)

-- eight cells more
pub row_written : (s : List ℕ) (n k : ℕ) (t : List ℤ) → 8 * k + 8 ≤ length t
    → sets (lines_written s n k t) (8 * k) (line_cells n (k + 1) (piece_start (cut newline s) (k + 1)) (cut space (line s (k + 1)))) ≡ lines_written s n (k + 1) t
row_written s n k t h =
    let v = line_cells n (k + 1) (piece_start (cut newline s) (k + 1)) (cut space (line s (k + 1))) in
    let e = row_length n (k + 1) (piece_start (cut newline s) (k + 1)) (cut space (line s (k + 1))) in
    let more-cells : 8 * k + length v ≡ 8 * (k + 1) = omega (arith, e) in
    let more : lines_cells s n (k + 1) ≡ lines_cells s n k ++ v = rw (add-one k) in
    sets_next (lines_cells s n k) v t (8 * k) (rows_length s n k) (omega (arith, e)) ∙ rw (more-cells, more)

-- eight cells, each written in its place
pub eight_set : (t : List ℤ) (a b c d e f g h : ℤ) → length t ≡ 8
    → set (set (set (set (set (set (set (set t 0 a) 1 b) 2 c) 3 d) 4 e) 5 f) 6 g) 7 h ≡ a ∷ b ∷ c ∷ d ∷ e ∷ f ∷ g ∷ h ∷ []
eight_set t a b c d e f g h n =
    let fits : 0 + 8 ≤ length t = omega arith in
    let past : length t ≤ 8 = omega arith in
    let none : drop 8 t ≡ [] = drop_of_length-le t past in
    sets-eq (a ∷ b ∷ c ∷ d ∷ e ∷ f ∷ g ∷ h ∷ []) t 0 fits ∙ rw none

-- the cells of a line, written over eight cells of a slice
pub cells_put : (t : List ℤ) (i k : ℕ) (r : LineCells) (ys : List ℤ) → ys ≡ eight_cells r → k ≡ 8 → i + 8 ≤ length t → put_mid i k t ys ≡ sets t i (eight_cells r)
cells_put t i k r ys e q h = put_mid-paste i k t ys (eight_cells r) 8 e (sym q) refl ∙ sym (sets-eq (eight_cells r) t i h)

-- ---- what the loop keeps at a label whose line begins at `at`, with the table t, which was t₀

pub record Going (s : List ℕ) (n : ℕ) (t₀ : List ℤ) (at label : ℕ) (t : List ℤ) : Type 0 where
  pub low : 1 ≤ label
  pub high : label ≤ n + 1
  pub here : at ≡ piece_start (cut newline s) label
  pub left : cut newline (rest s at) ≡ drop label (cut newline s)
  pub table : t ≡ lines_written s n (label - 1) t₀
  pub size : length t ≡ length t₀
  pub found : first_bad (line_check s n) label (n + 1 - label) ≡ first_bad (line_check s n) 1 n

module _ (s : List ℕ) (n : ℕ) (h : Headed s) (e : n ≡ labels s) where
  lines_count : count_by is_newline s ≡ n + 1
  unfolding labels
  lines_count = omega (arith, h.low)

  abbrev first : List ℕ
  first = first_line (tie_of s)

  first_cut : cut newline s ≡ first ∷ cut newline (rest s (length first + 1))
  unfolding line
  first_cut =
      let nx = line_next s 0 h.some h.ends in
      let w : cut newline (rest s 0) ≡ cut newline s = ap (cut newline) (whole s) in
      let f : first_of (cut newline (rest s 0)) ≡ first = sym (ap (λ (ps : List (List ℕ)). get_or ps 0 []) nx) ∙ ap (λ (ps : List (List ℕ)). get_or ps 0 []) w ∙ h.first in
      sym w ∙ nx ∙ rw (f, zero-add (length first))

  pub start : (t : List ℤ) → Going s n t (length first + 1) 1 t
  start t = record {
    low = omega arith;
    high = omega arith;
    here = sym (place_next_lem (cut newline s) 0 first (cut newline (rest s (length first + 1))) first_cut ∙ rw (place_zero (cut newline s), zero-add (length first)));
    left = pieces_next (cut newline s) 0 first (cut newline (rest s (length first + 1))) first_cut;
    table = refl;
    size = refl;
    found = first_start (line_check s n) n;
  }

  module _ (t₀ : List ℤ) (at k : ℕ) (t : List ℤ) (g : Going s n t₀ at k t) where
    -- a label is left, so its line begins inside the text
    pub inside : k ≤ n → at < length s
    inside m = go (ltb at (length s)) refl
      where
        many : 2 ≤ length (cut newline (rest s at))
        many = omega (arith, ap length g.left, length-drop k (cut newline s), pieces s, lines_count)

        go : (b : Bool) → ltb at (length s) ≡ b → at < length s
        go true q = ltb-true at (length s) q
        go false q =
            let past : length (take (length s) s) ≤ at = omega (arith, ap length (whole s), ltb-false at (length s) q) in
            let z : rest s at ≡ [] = drop_of_length-le (take (length s) s) past in
            absurd (omega (arith, many, ap (λ (l : List ℕ). length (cut newline l)) z))

    module _ (m : k ≤ n) where
      pieces_are : drop k (cut newline s) ≡ line_from s at ∷ cut newline (rest s (at + length (line_from s at) + 1))
      pieces_are = sym g.left ∙ line_next s at (inside m) h.ends

      line_is : line s k ≡ line_from s at
      unfolding line
      line_is = piece_is (cut newline s) k _ _ pieces_are

      check_is : line_check s n k ≡ line_bad n k (line_from s at)
      check_is = ap (line_bad n k) line_is

      pub turn : (next : ℕ) (t' : List ℤ) → Went n k s at next → t' ≡ line_written (line_read n k s at) (8 * (k - 1)) t → 8 * n ≤ length t₀ → Going s n t₀ next (k + 1) t'
      turn next t' w q room =
          let j : k - 1 + 1 ≡ k = omega (arith, g.low) in
          let i : k + 1 - 1 ≡ k = omega arith in
          let base : ℕ = 8 * (k - 1) in
          let own : line_cells n k at (fields_from s at) ≡ line_cells n (k - 1 + 1) (piece_start (cut newline s) (k - 1 + 1)) (cut space (line s (k - 1 + 1))) =
          rw (j, line_is) (ap (λ (p : ℕ). line_cells n k p (fields_from s at)) g.here) in
          let z : t' ≡ lines_written s n k t₀ =
          q ∙ w.cells base t
          ∙ ap (λ (x : List ℤ). sets x base (line_cells n k at (fields_from s at))) g.table
          ∙ ap (λ (v : List ℤ). sets (lines_written s n (k - 1) t₀) base v) own
          ∙ row_written s n (k - 1) t₀ (omega (arith, g.low))
          ∙ ap (λ (x : ℕ). lines_written s n x t₀) j in
          record {
            low = omega arith;
            high = omega arith;
            here = omega (arith, w.is, g.here, place_next_lem (cut newline s) k _ _ pieces_are);
            left = rw w.is (pieces_next (cut newline s) k _ _ pieces_are);
            table = z ∙ rw i;
            size = ap length z ∙ written_length s n k t₀ (omega arith);
            found = sym (first_fine (line_check s n) n k m (check_is ∙ w.fine)) ∙ g.found;
          }

      pub stop : (b : Row) → Stopped n k s at b → Refused b k ≡ lines_bad s n
      unfolding lines_bad
      stop b x =
          sym (first_bad_lem (line_check s n) n k b m (check_is ∙ x.bad)) ∙ g.found

    pub done : n < k → Fine ≡ lines_bad s n
    unfolding lines_bad
    done m = sym (first_end (line_check s n) n k m) ∙ g.found
