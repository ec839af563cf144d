-- Rows 1 to 3 and 5 to 7 of document 01's table "Where each refusal is found", and the cells that Read writes of each line.
use Rattle.std.specs.Prelude.{Bool, cond, ◌&&◌, ◌||◌, List, [], ◌∷◌, ◌++◌, ℕ, zero, suc, ◌+◌, ◌-◌, leb, eqb, ℤ, pos, length, get_or, Option, Some, None}
use Rattle.cells.specs.Limits.{size_limit, label_limit}
use Rattle.cells.specs.Characters.{newline, space}
use Rattle.cells.specs.Quoted.{bytes_of}
use Rattle.kinds.specs.declared.Fields.{Fields}
use Rattle.kinds.specs.Kinds.{group_code, fields_at}
use Rattle.cells.specs.Cells.{zeros}
use Rattle.numbers.specs.Arithmetic.{rounding_by}
use Rattle.numbers.specs.declared.Arithmetic.{Arithmetic}
use Rattle.numbers.specs.declared.Tie.{Tie}
use Rattle.numbers.specs.declared.Tie.TheVariants.{Away, Even}
use Rattle.text.specs.Bytes.{all, count_by, is_allowed, is_newline, same}
use Rattle.text.specs.Pieces.{cut, piece_start, fields_are}
use Rattle.refusals.specs.Rows.{text_row, first_line_row, labels_row, fields_row, kind_row, form_row}
use Rattle.refusals.specs.Refusal.{Verdict, Fine, Refused, first_bad}
use Rattle.refusals.specs.declared.Row.{Row}
use Rattle.lines.specs.Fields.{dash, field_of, is_right, held, kind_code}

-- ---- rows 1 to 3, at place 0

-- a sheet is 1 to 65,536 bytes of lines, each ended by byte 10; all others are 32 to 126
unfoldable pub is_text : List ℕ → Bool
is_text s = leb 1 (length s) && leb (length s) size_limit && eqb (get_or s (length s - 1) 0) newline && all is_allowed s

-- line k of the text: line 0 holds the column names, and line k after it has label k
unfoldable pub line : List ℕ → ℕ → List ℕ
line s k = get_or (cut newline s) k []

-- n, the number of labels
unfoldable pub labels : List ℕ → ℕ
labels s = count_by is_newline s - 1

-- "Line one holds the column names": the line by which a sheet names a tie rule. Order 5: "Sheets whose first line is `kind2 name a b c`
-- use it in D, and all other sheets keep halves away from zero."
unfoldable pub first_line : Tie → List ℕ
first_line Away = bytes_of "kind name a b c"
first_line Even = bytes_of "kind2 name a b c"

-- "the rule that the sheet's own first line names"
unfoldable pub tie_of : List ℕ → Tie
tie_of s = cond (same (line s 0) (first_line Even)) Even Away

-- the arithmetic by which a sheet is evaluated: "Values are judged under the rule that the sheet's own first line names"
abbrev pub arithmetic_of : List ℕ → Arithmetic
arithmetic_of s = rounding_by (tie_of s)

-- "Refusal 2 now allows either line."
abbrev pub is_first_line : List ℕ → Bool
is_first_line l = same l (first_line Away) || same l (first_line Even)

abbrev unless : Bool → Row → Verdict → Verdict
unless ok row next = cond ok next (Refused row 0)

unfoldable pub head_bad : List ℕ → Verdict
head_bad s =
    unless (is_text s) text_row
    (unless (is_first_line (line s 0)) first_line_row
    (unless (leb 1 (labels s) && leb (labels s) label_limit) labels_row
    Fine))

-- ---- rows 5 to 7, one pass down the lines, the lowest number first in a line

-- what label 1 always is
unfoldable pub root_line : List ℕ
root_line = bytes_of "G - 0 - -"

-- the field j of a line with the fields fs: 0 kind, 1 name, 2 a, 3 b, 4 c
abbrev pub field : List (List ℕ) → ℕ → List ℕ
field fs j = get_or fs j []

-- the fields name, a, b and c have the forms that the kind wants
abbrev pub forms_right : ℕ → Fields → List (List ℕ) → Bool
forms_right n k fs =
    is_right (field_of k.name n (field fs 1))
    && is_right (field_of k.a n (field fs 2))
    && is_right (field_of k.b n (field fs 3))
    && is_right (field_of k.c n (field fs 4))

-- the row that refuses the line l of label k, in a sheet of n labels, with the fields fs; none where it passes
abbrev pub fields_bad : ℕ → ℕ → List ℕ → List (List ℕ) → Option Row
fields_bad n k l fs =
    cond (fields_are 5 fs)
    (cond (eqb (kind_code (field fs 0)) 0) (Some kind_row)
    (cond (cond (eqb k 1) (same l root_line) (forms_right n (fields_at (kind_code (field fs 0))) fs)) None (Some form_row)))
    (Some fields_row)

unfoldable pub line_bad : ℕ → ℕ → List ℕ → Option Row
line_bad n k l = fields_bad n k l (cut space l)

abbrev pub line_check : List ℕ → ℕ → ℕ → Option Row
line_check s n k = line_bad n k (line s k)

unfoldable pub lines_bad : List ℕ → ℕ → Verdict
lines_bad s n = first_bad (line_check s n) 1 n

-- ---- the eight cells of a line: kind code, start and length of the name field (0, 0 for `-`), a, b, c (0 for `-`), owner and target,
-- which later passes write

-- those of label 1, which is always `G - 0 - -`: a Group, with no name and in no Group
abbrev pub root_cells : List ℤ
root_cells = pos group_code ∷ zeros 7

-- one of the two of the name field: x, or 0 for `-`
abbrev pub name_cell : List (List ℕ) → ℕ → ℤ
name_cell fs x = pos (cond (same (field fs 1) dash) 0 x)

-- those of any other line, which begins at place p of the text and has the fields fs
unfoldable pub field_cells : ℕ → ℕ → List (List ℕ) → List ℤ
field_cells n p fs =
    let k = fields_at (kind_code (field fs 0)) in
    pos (kind_code (field fs 0))
    ∷ name_cell fs (p + piece_start fs 1)
    ∷ name_cell fs (length (field fs 1))
    ∷ held (field_of k.a n (field fs 2))
    ∷ held (field_of k.b n (field fs 3))
    ∷ held (field_of k.c n (field fs 4))
    ∷ pos 0
    ∷ pos 0
    ∷ []

abbrev pub line_cells : ℕ → ℕ → ℕ → List (List ℕ) → List ℤ
line_cells n k p fs = cond (eqb k 1) root_cells (field_cells n p fs)

-- the cells of labels 1 to k
abbrev pub lines_cells : List ℕ → ℕ → ℕ → List ℤ
lines_cells s n zero = []
lines_cells s n (suc k) = lines_cells s n k ++ line_cells n (suc k) (piece_start (cut newline s) (suc k)) (cut space (line s (suc k)))
