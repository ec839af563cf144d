-- A sheet, a text and a table with another number in one N line.
use Rattle.std.specs.Prelude.{◌≡◌, List, ℕ, zero, suc, ℤ, get_or, set}
use Rattle.cells.specs.Table.{name_start, with_column, with_number}
use Rattle.numbers.specs.declared.Arithmetic.{Arithmetic}
use Rattle.lines.specs.Lines.{labels, tie_of}
use Rattle.order.specs.Order.{plan}
use Rattle.reading.specs.Read.{sheet_table}
use Rattle.figures.specs.Figures.{figures}
use Rattle.sheets.specs.Sheet.{Line, Sheet, no_line, parse, serialize}
use Rattle.reading.specs.AnyLength.{ReadsAtAnyLength}

-- the line with z in its field a
abbrev pub with_a : ℤ → Line → Line
with_a z l = record { code = l.code; name = l.name; a = z; b = l.b; c = l.c }

-- the sheet with z in the field a of label l
abbrev pub put_number : ℕ → ℤ → Sheet → Sheet
put_number zero z x = x
put_number (suc k) z x = record { first = x.first; lines = set x.lines k (with_a z (get_or x.lines k no_line)) }

-- "the sheet with the number put in", as a text
unfoldable pub number_put : List ℕ → ℕ → ℤ → List ℕ
number_put s l z = serialize (put_number l z (parse s))

-- what holds of a text r that is s with z put in the N line of label l
pub record NumberPut (s : List ℕ) (l : ℕ) (z : ℤ) (r : List ℕ) : Type 0 where
  pub reads : ReadsAtAnyLength r
  pub count : labels r ≡ labels s
  -- order 5: "Values are judged under the rule that the sheet's own first line names", which is the old one
  pub tie : tie_of r ≡ tie_of s
  -- the sheet that it holds
  pub sheet : parse r ≡ put_number l z (parse s)
  -- its table is the old one but for the byte starts and that cell
  pub table : sheet_table r ≡ with_column 1 (name_start (sheet_table r)) (labels s) (with_number l z (sheet_table s))
  -- its plan is the old one, and its figures are those of the old table with that cell changed, by any arithmetic
  pub order : plan (sheet_table r) (labels r) ≡ plan (sheet_table s) (labels s)
  pub results : (α : Arithmetic) (v : ℕ) → figures α (sheet_table r) (labels r) v ≡ figures α (with_number l z (sheet_table s)) (labels s) v
