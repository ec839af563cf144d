-- "Keeps the rules": what document 01 asks of a sheet, over its text s alone. The sentences are the paper's.
use Rattle.std.specs.Prelude.{◌≡◌, true, List, ℕ, ◌≤◌, ◌<◌, ℤ, length}
use Rattle.cells.specs.Limits.{label_limit, size_limit, level_limit}
use Rattle.cells.specs.Characters.{space}
use Rattle.kinds.specs.Kinds.{group_code, fields_at, takes, argument_place}
use Rattle.cells.specs.Table.{kind, is_definition, is_expression, field_a}
use Rattle.text.specs.Bytes.{all, is_allowed, ends_lines}
use Rattle.text.specs.Pieces.{cut, fields_are}
use Rattle.lines.specs.Fields.{kind_code}
use Rattle.lines.specs.Lines.{line, labels, first_line, tie_of, root_line, field, forms_right}
use Rattle.tree.specs.Tree.{uses, IsPart, Owned, Level}
use Rattle.paths.specs.Leads.{PathsKept}
use Rattle.reading.specs.Read.{owned_table, sheet_cells}

-- "The sheet"
pub record TextKept (s : List ℕ) : Type 0 where
  -- "A sheet is 1 to 65,536 bytes of lines, each ended by byte 10; all others are 32 to 126"
  pub some : 1 ≤ length s
  pub size : length s ≤ size_limit
  pub ends : ends_lines s
  pub allowed : all is_allowed s ≡ true
  -- "Line one holds the column names, exactly `kind name a b c`"; order 5: "Refusal 2 now allows either line", and the sheet's
  -- tie rule is "the rule that the sheet's own first line names"
  pub first : line s 0 ≡ first_line (tie_of s)
  -- "Then come 1 to 1,024 lines", which have the labels
  pub low : 1 ≤ labels s
  pub high : labels s ≤ label_limit

-- the line of label l, in a sheet of n labels
pub record LineKept (s : List ℕ) (n l : ℕ) : Type 0 where
  -- "five non-empty fields in that order, one space between fields"
  pub five : fields_are 5 (cut space (line s l)) ≡ true
  -- the first names a kind of the table
  pub known : 1 ≤ kind_code (field (cut space (line s l)) 0)
  -- "Label 1 is always `G - 0 - -`, the outermost Group"
  pub root : l ≡ 1 → line s l ≡ root_line
  -- "Which fields a kind has is one fixed table of twelve rows; a field not listed is `-`"
  pub forms : 2 ≤ l → forms_right n (fields_at (kind_code (field (cut space (line s l)) 0))) (cut space (line s l)) ≡ true

-- the lines as a table t of n labels
pub record TreeKept (t : List ℤ) (n : ℕ) : Type 0 where
  -- from label 2, a definition's Group field is a G with a label below its own
  pub group : (l : ℕ) → 2 ≤ l → l ≤ n → is_definition t l ≡ true → (field_a t l < l) × (kind t (field_a t l) ≡ group_code)
  -- a body or operand is an expression with a label above its own line's
  pub part : (l x : ℕ) → IsPart t l x → (l < x) × (is_expression t x ≡ true)
  -- an expression is used by one field, once
  pub once : (x : ℕ) → is_expression t x ≡ true → uses t n x ≡ 1
  -- no P is owned by a V: "owned by the definition whose body it is or stands in", an argument is one that this body is given
  pub argument : (d x : ℕ) → Owned t d x → argument_place (kind t x) ≤ takes (kind t d)
  -- "A body has level 1, its operands level 2, and so on": up to 32
  pub level : (x k : ℕ) → Level t x k → k ≤ level_limit

pub record Keeps (s : List ℕ) : Type 0 where
  pub text : TextKept s
  pub lines : (l : ℕ) → 1 ≤ l → l ≤ labels s → LineKept s (labels s) l
  pub tree : TreeKept (sheet_cells s) (labels s)
  -- the names in a Group differ, and each path leads to what its line needs: "R needs a V, C needs an F"
  pub paths : PathsKept s (owned_table (sheet_cells s) (labels s)) (labels s)
