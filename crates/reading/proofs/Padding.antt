-- Zeros behind the cells of a table change nothing: rows 8 to 15 find what they find in those cells alone, and leave the same zeros behind.
use mathlib.Core.Path.{◌≡◌, refl, ap, ◌∙◌}
use mathlib.Core.List.{List, [], ◌∷◌, ◌++◌, append-nil}
use Prim.Native.Nat.{ℕ, zero, suc, ◌+◌, ◌-◌, ◌*◌, ◌≤◌, ◌<◌}
use native.Mathlib.Omega.{arith}
use lib.IntN.{ℤ, pos}
use lib.ListN.{length, set}
use lib.Seq.{set-append_left}
use borrow.Author.Tests.{le-leb}
use Rattle.cells.specs.Cells.{nat_of, int_at, zeros}
use Rattle.cells.specs.Table.{cell, with_column}
use Rattle.cells.proofs.Stores.{int_at_zeros}
use Rattle.cells.proofs.Columns.{column_length, column_same}
use Rattle.refusals.specs.Refusal.{or_else}
use Rattle.lines.specs.Lines.{labels, head_bad, lines_cells}
use Rattle.lines.specs.Lined.{lined_table}
use Rattle.lines.proofs.Pass.{rows_length}
use Rattle.tree.specs.Tree.{owner_of}
use Rattle.tree.proofs.Parts.{Like, like}
use Rattle.tree.proofs.Owners.{like_owner}
use Rattle.tree.proofs.Likes.{tree_like}
use Rattle.paths.specs.Paths.{target_cell}
use Rattle.paths.proofs.Alike as paths
use Rattle.reading.specs.Read.{table_short, owned_table, resolved_table, resolved_bad, sheet_cells, sheet_bad, read_bad}

-- ---- cells and columns

padded : (t : List ℤ) (k i : ℕ) → int_at (t ++ zeros k) i ≡ int_at t i
padded [] k i = int_at_zeros k i
padded (x ∷ t) k zero = refl
padded (x ∷ t) k (suc i) = padded t k i

pub cell_padded : (t : List ℤ) (k l j : ℕ) → cell (t ++ zeros k) l j ≡ cell t l j
cell_padded t k zero j = refl
cell_padded t k (suc l) j = ap nat_of (padded t k (8 * l + j))

column_padded : (j : ℕ) → j < 8 → (f : ℕ → ℕ) (n : ℕ) (t z : List ℤ) → 8 * n ≤ length t → with_column j f n (t ++ z) ≡ with_column j f n t ++ z
column_padded j a f zero t z room = refl
column_padded j a f (suc n) t z room =
    ap (λ (w : List ℤ). set w (8 * n + j) (pos (f (suc n)))) (column_padded j a f n t z (omega arith))
    ∙ set-append_left (with_column j f n t) z (8 * n + j) (pos (f (suc n))) (omega (arith, column_length j f n t))

-- ---- rows 8 to 15, owners and targets, of a table t of n labels and k zeros

module _ (t : List ℤ) (k n : ℕ) (room : 8 * n ≤ length t) where
  abbrev w : List ℤ
  w = t ++ zeros k

  alike : Like t w
  alike = like t w (λ l j h. cell_padded t k l j)

  owned_padded : owned_table w n ≡ owned_table t n ++ zeros k
  unfolding owned_table
  owned_padded = column_same 6 (owner_of w n) (owner_of t n) n w (λ l h g. like_owner t w n alike l) ∙ column_padded 6 (omega arith) (owner_of t n) n t (zeros k) room

  owned_long : 8 * n ≤ length (owned_table t n)
  unfolding owned_table
  owned_long = omega (arith, column_length 6 (owner_of t n) n t)

  owned_alike : paths.Alike (owned_table t n) (owned_table t n ++ zeros k)
  owned_alike = record {
    kinds = λ l. cell_padded (owned_table t n) k l 0;
    starts = λ l. cell_padded (owned_table t n) k l 1;
    lengths = λ l. cell_padded (owned_table t n) k l 2;
    owners = λ l. cell_padded (owned_table t n) k l 6;
    owned = λ l h. padded (owned_table t n) k (8 * (l - 1) + 6);
  }

  module _ (s : List ℕ) where
    pub bad_padded : resolved_bad s w n ≡ resolved_bad s t n
    unfolding resolved_bad
    bad_padded = rw (tree_like t w alike n, owned_padded, paths.paths_alike s (owned_table t n) (owned_table t n ++ zeros k) owned_alike n)

    pub resolved_padded : resolved_table s w n ≡ resolved_table s t n ++ zeros k
    unfolding resolved_table
    resolved_padded =
        rw owned_padded
        (column_same 7 (target_cell s (owned_table t n ++ zeros k) n) (target_cell s (owned_table t n) n) n (owned_table t n ++ zeros k)
        (λ l h g. paths.target_cell_alike s (owned_table t n) (owned_table t n ++ zeros k) owned_alike n l)
        ∙ column_padded 7 (omega arith) (target_cell s (owned_table t n) n) n (owned_table t n) (zeros k) owned_long)

-- ---- of a sheet

module _ (s : List ℕ) where
  pub rows_lined : lined_table s (8 * labels s) ≡ sheet_cells s
  unfolding lined_table sheet_cells
  rows_lined = let q : 8 * labels s - 8 * labels s ≡ 0 = omega arith in rw q (append-nil (lines_cells s (labels s) (labels s)))

  rows_long : 8 * labels s ≤ length (sheet_cells s)
  unfolding sheet_cells
  rows_long = omega (arith, rows_length s (labels s) (labels s))

  module _ (m : ℕ) where
    pub sheet_bad_lem : resolved_bad s (lined_table s m) (labels s) ≡ resolved_bad s (sheet_cells s) (labels s)
    unfolding lined_table sheet_cells
    sheet_bad_lem = bad_padded (sheet_cells s) (m - 8 * labels s) (labels s) rows_long s

    pub sheet_table_lem : resolved_table s (lined_table s m) (labels s) ≡ resolved_table s (sheet_cells s) (labels s) ++ zeros (m - 8 * labels s)
    unfolding lined_table sheet_cells
    sheet_table_lem = resolved_padded (sheet_cells s) (m - 8 * labels s) (labels s) rows_long s

  -- with a table long enough, row 4 finds nothing, and Read what the other rows find
  pub read_long : (m : ℕ) → 8 * labels s ≤ m → read_bad s m ≡ or_else (head_bad s) (sheet_bad s)
  unfolding read_bad table_short
  read_long m room = rw (le-leb (8 * labels s) m room)
