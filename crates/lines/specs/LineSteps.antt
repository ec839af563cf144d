-- What the code finds at one line of the text s, by positions.
use Rattle.std.specs.Prelude.{◌≡◌, false, cond, List, [], ◌∷◌, ◌++◌, ℕ, ◌+◌, ◌-◌, ◌*◌, ◌<◌, eqb, ℤ, pos, length, drop, Option, Some, None, Result, Ok, Err}
use Rattle.std.proofs.Math.Seq.{slice}
use Rattle.std.proofs.lemmas.List.Edits.{sets}
use Rattle.cells.specs.Characters.{newline}
use Rattle.kinds.specs.declared.Fields.{Fields}
use Rattle.kinds.specs.Kinds.{group_code, fields_at}
use Rattle.text.specs.Bytes.{same}
use Rattle.text.specs.Pieces.{cut, piece_start, first_of, fields_are}
use Rattle.text.specs.Scans.{rest, fields_from}
use Rattle.refusals.specs.Rows.{form_row}
use Rattle.refusals.specs.Refusal.{Verdict}
use Rattle.refusals.specs.declared.Row.{Row}
use Rattle.lines.specs.Fields.{dash, field_of, held, kind_code}
use Rattle.lines.specs.Lines.{field, forms_right, name_cell, root_line, line_bad, lines_cells}
use Rattle.lines.specs.declared.Ends.{Ends}
use Rattle.lines.specs.declared.LineCells.{LineCells}
use Rattle.lines.specs.declared.Operands.{Operands}

-- the line that begins at `from`
abbrev pub line_from : List ℕ → ℕ → List ℕ
line_from s from = first_of (cut newline (rest s from))

-- it ends at `end`, and the lines after it begin behind that
pub record LineEndsAt (s : List ℕ) (from end : ℕ) : Type 0 where
  pub inside : end < length s
  pub line : cut newline (rest s from) ≡ slice from end s ∷ cut newline (rest s (end + 1))

-- its fields are five, none of them empty, and end at these places
pub record FiveAt (s : List ℕ) (from : ℕ) (e : Ends) : Type 0 where
  pub wide0 : from < e.kind
  pub wide1 : e.kind + 1 < e.name
  pub wide2 : e.name + 1 < e.a
  pub wide3 : e.a + 1 < e.b
  pub wide4 : e.b + 1 < e.c
  pub ending : LineEndsAt s from e.c
  pub are : fields_from s from ≡ slice from e.kind s ∷ slice (e.kind + 1) e.name s ∷ slice (e.name + 1) e.a s ∷ slice (e.a + 1) e.b s ∷ slice (e.b + 1) e.c s ∷ []

abbrev pub SplitOf : List ℕ → ℕ → Option Ends → Type 0
SplitOf s from (Some e) = FiveAt s from e
SplitOf s from None = fields_are 5 (fields_from s from) ≡ false

-- what the fields a, b and c hold
abbrev pub operands_of : Option ℤ → Option ℤ → Option ℤ → Option Operands
operands_of (Some a) (Some b) (Some c) = Some (record { a = a; b = b; c = c })
operands_of (Some a) (Some b) None = None
operands_of (Some a) None z = None
operands_of None y z = None

abbrev pub operands_at : List ℕ → Ends → Fields → ℕ → Option Operands
operands_at s e k n = operands_of (field_of k.a n (slice (e.name + 1) e.a s)) (field_of k.b n (slice (e.a + 1) e.b s)) (field_of k.c n (slice (e.b + 1) e.c s))

-- the cells that the code carries, as the list that it writes
abbrev pub eight_cells : LineCells → List ℤ
eight_cells r = r.code ∷ r.start ∷ r.length ∷ r.a ∷ r.b ∷ r.c ∷ pos 0 ∷ pos 0 ∷ []

-- the cells of a line by the places of its fields, and by the fields alone
abbrev pub cells_by_ends : List ℕ → Ends → ℕ → ℤ → ℤ → ℤ → LineCells
cells_by_ends s e code a b c = record {
  code = pos code;
  start = pos (cond (same (slice (e.kind + 1) e.name s) dash) 0 (e.kind + 1));
  length = pos (cond (same (slice (e.kind + 1) e.name s) dash) 0 (e.name - (e.kind + 1)));
  a = a;
  b = b;
  c = c;
  end = e.c;
}

abbrev pub cells_by_fields : ℕ → List ℕ → ℕ → List (List ℕ) → LineCells
cells_by_fields n s from fs = record {
  code = pos (kind_code (field fs 0));
  start = name_cell fs (from + piece_start fs 1);
  length = name_cell fs (length (field fs 1));
  a = held (field_of (fields_at (kind_code (field fs 0))).a n (field fs 2));
  b = held (field_of (fields_at (kind_code (field fs 0))).b n (field fs 3));
  c = held (field_of (fields_at (kind_code (field fs 0))).c n (field fs 4));
  end = from + length (line_from s from);
}

-- those of label 1
abbrev pub root_at : List ℕ → ℕ → LineCells
root_at s from = record {
  code = pos group_code;
  start = pos 0;
  length = pos 0;
  a = pos 0;
  b = pos 0;
  c = pos 0;
  end = from + length (line_from s from);
}

-- a line with five fields of a known kind: row 7, for label 1 and for the others
abbrev pub root_read : List ℕ → ℕ → Result LineCells Row
root_read s from = cond (same (line_from s from) root_line) (Ok (root_at s from)) (Err form_row)

abbrev pub other_read : ℕ → List ℕ → ℕ → Result LineCells Row
other_read n s from =
    cond (forms_right n (fields_at (kind_code (field (fields_from s from) 0))) (fields_from s from))
    (Ok (cells_by_fields n s from (fields_from s from)))
    (Err form_row)

-- the line that begins at `from`, with label k in a sheet of n labels: its cells, or the row that refuses it
abbrev pub cells_for : ℕ → ℕ → List ℕ → ℕ → LineCells
cells_for n k s from = cond (eqb k 1) (root_at s from) (cells_by_fields n s from (fields_from s from))

abbrev pub decide : Option Row → LineCells → Result LineCells Row
decide None r = Ok r
decide (Some b) r = Err b

unfoldable pub line_read : ℕ → ℕ → List ℕ → ℕ → Result LineCells Row
line_read n k s from = decide (line_bad n k (line_from s from)) (cells_for n k s from)

abbrev pub step_of : Result LineCells Row → Result ℕ Row
step_of (Ok r) = Ok (r.end + 1)
step_of (Err b) = Err b

-- the table after a line is read: its cells stand from index `base` on
abbrev pub line_written : Result LineCells Row → ℕ → List ℤ → List ℤ
line_written (Ok r) base t = sets t base (eight_cells r)
line_written (Err b) base t = t

-- how many of n labels a pass upward went by before it ended
abbrev pub passed : Verdict → ℕ → ℕ
passed (Ok u) n = n
passed (Err e) n = e.place - 1

-- a table in which the cells of labels 1 to k are written, and the others are as they were
abbrev pub lines_written : List ℕ → ℕ → ℕ → List ℤ → List ℤ
lines_written s n k t = lines_cells s n k ++ drop (8 * k) t
