-- Document 01's Read: the text s, and a table lent with m cells.
use Rattle.std.specs.Prelude.{◌≡◌, cond, List, ◌++◌, ℕ, ◌-◌, ◌*◌, leb, ℤ, Ok, Err}
use Rattle.cells.specs.Cells.{zeros}
use Rattle.cells.specs.Table.{with_column}
use Rattle.refusals.specs.Rows.{buffers_row}
use Rattle.refusals.specs.Refusal.{or_else, reply_of, Verdict, Fine, Refused, Reply}
use Rattle.lines.specs.Lines.{labels, head_bad, lines_bad, lines_cells}
use Rattle.tree.specs.Tree.{owner_of, tree_bad}
use Rattle.paths.specs.Paths.{target_cell, paths_bad}

-- row 4, place 1: table below 8n cells
unfoldable pub table_short : List ℕ → ℕ → Verdict
table_short s m = cond (leb (8 * labels s) m) Fine (Refused buffers_row 1)

-- the table t of n lines with the owner of each label; and with the target of each R and C
unfoldable pub owned_table : List ℤ → ℕ → List ℤ
owned_table t n = with_column 6 (owner_of t n) n t

unfoldable pub resolved_table : List ℕ → List ℤ → ℕ → List ℤ
resolved_table s t n = with_column 7 (target_cell s (owned_table t n) n) n (owned_table t n)

-- rows 8 to 15, of a table t of n lines
unfoldable pub resolved_bad : List ℕ → List ℤ → ℕ → Verdict
resolved_bad s t n = or_else (tree_bad t n) (paths_bad s (owned_table t n) n)

-- what the fields of all lines hold, label by label: kind code, name field, a, b, c
unfoldable pub sheet_cells : List ℕ → List ℤ
sheet_cells s = lines_cells s (labels s) (labels s)

-- rows 5 to 15, and the table of a sheet that they let pass: eight cells a label
unfoldable pub sheet_bad : List ℕ → Verdict
sheet_bad s = or_else (lines_bad s (labels s)) (resolved_bad s (sheet_cells s) (labels s))

unfoldable pub sheet_table : List ℕ → List ℤ
sheet_table s = resolved_table s (sheet_cells s) (labels s)

-- "A sheet reads when rows 1 to 15, row 4 aside, find nothing in it"
abbrev pub Reads : List ℕ → Type 0
Reads s = or_else (head_bad s) (sheet_bad s) ≡ Fine

-- rows 1 to 15, in the order of the paper's table
abbrev pub body_bad : List ℕ → ℕ → Verdict
body_bad s m = or_else (table_short s m) (sheet_bad s)

unfoldable pub read_bad : List ℕ → ℕ → Verdict
read_bad s m = or_else (head_bad s) (body_bad s m)

-- Read answers the number of labels, and leaves the sheet's table, whose unused cells are zero; where it refuses, nothing but zeros
unfoldable pub read_reply : List ℕ → ℕ → Reply
read_reply s m = reply_of (read_bad s m) (labels s)

abbrev pub table_of : Verdict → List ℕ → ℕ → List ℤ
table_of (Ok _) s m = sheet_table s ++ zeros (m - 8 * labels s)
table_of (Err e) s m = zeros m

unfoldable pub read_table : List ℕ → ℕ → List ℤ
read_table s m = table_of (read_bad s m) s m

-- all that Read leaves of a text s and a table of m cells: the reply r and the table t
pub record ReadLeaves (s : List ℕ) (m : ℕ) (r : Reply) (t : List ℤ) : Type 0 where
  -- "It answers n", or the first refusal that applies
  pub reply : r ≡ read_reply s m
  -- "Read writes the table": every cell of it
  pub table : t ≡ read_table s m
