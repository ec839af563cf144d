-- A sheet that reads, row 1's length limit left aside: what a text with another number in it is judged by.
use Rattle.std.specs.Prelude.{◌≡◌, true, List, ℕ, ◌≤◌, length}
use Rattle.cells.specs.Limits.{label_limit}
use Rattle.text.specs.Bytes.{all, is_allowed, ends_lines}
use Rattle.refusals.specs.Refusal.{Fine}
use Rattle.lines.specs.Lines.{line, labels, first_line, tie_of}
use Rattle.reading.specs.Read.{sheet_bad}

-- rows 1 to 3 find nothing in a text, row 1's length limit left aside
pub record HeadRight (s : List ℕ) : Type 0 where
  pub some : 1 ≤ length s
  pub ends : ends_lines s
  pub allowed : all is_allowed s ≡ true
  -- "Refusal 2 now allows either line.": the one that names the sheet's tie rule
  pub first : line s 0 ≡ first_line (tie_of s)
  pub low : 1 ≤ labels s
  pub high : labels s ≤ label_limit

-- "A sheet reads when rows 1 to 15, row 4 aside, find nothing in it", row 1's length limit left aside
pub record ReadsAtAnyLength (s : List ℕ) : Type 0 where
  pub head : HeadRight s
  pub sheet : sheet_bad s ≡ Fine
