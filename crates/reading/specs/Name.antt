-- Document 01's Name: the text s, a table lent with m cells, and a label z, which is any i64.
use Rattle.std.specs.Prelude.{◌≡◌, cond, List, ℕ, ◌+◌, ◌≤◌, leb, ℤ, length, Ok, Err}
use Rattle.std.proofs.Math.Seq.{slice}
use Rattle.cells.specs.Cells.{nat_of}
use Rattle.cells.specs.Table.{cell}
use Rattle.refusals.specs.Refusal.{Verdict}
use Rattle.lines.specs.Lines.{labels}
use Rattle.reading.specs.Read.{sheet_table, read_bad, read_table}
use Rattle.reading.specs.declared.TextPart.{TextPart}

-- the label that z is; 0, which has no cells, where z is outside 1 to n
abbrev pub label_in : ℕ → ℤ → ℕ
label_in n z = cond (leb (nat_of z) n) (nat_of z) 0

-- cell j of that label in Read's table; 0 where Read refuses
abbrev pub cell_asked : Verdict → List ℕ → ℤ → ℕ → ℕ
cell_asked (Ok _) s z j = cell (sheet_table s) (label_in (labels s) z) j
cell_asked (Err e) s z j = 0

-- where the name field begins in the text, and its length; both are 0 for `-`, as in the table
unfoldable pub name_begin : List ℕ → ℕ → ℤ → ℕ
name_begin s m z = cell_asked (read_bad s m) s z 1

unfoldable pub name_size : List ℕ → ℕ → ℤ → ℕ
name_size s m z = cell_asked (read_bad s m) s z 2

-- "that very part of the text": empty if Read would refuse, the label is outside 1 to n, or the field is `-`
unfoldable pub name_part : List ℕ → ℕ → ℤ → List ℕ
name_part s m z = slice (name_begin s m z) (name_begin s m z + name_size s m z) s

-- ---- all that Name leaves

-- the part by its start and its length, and the table t
pub record PartLeaves (s : List ℕ) (m : ℕ) (z : ℤ) (p : TextPart) (t : List ℤ) : Type 0 where
  pub begins : p.start ≡ name_begin s m z
  pub size : p.length ≡ name_size s m z
  -- it lies in the text
  pub inside : p.start + p.length ≤ length s
  -- "writes the table as Read does"
  pub table : t ≡ read_table s m

-- the part's bytes, its place in memory and the table t; a place is a block and how far in it, and the text is at `text`
pub record NameLeaves (s : List ℕ) (m : ℕ) (z : ℤ) (text : ℕ × ℕ) (bytes : List ℕ) (place : ℕ × ℕ) (t : List ℤ) : Type 0 where
  -- "returns the name field"
  pub part : bytes ≡ name_part s m z
  -- "as that very part of the text": in the text's own block, so many bytes from where the text begins
  pub very : place ≡ (text.0, name_begin s m z + text.1)
  -- "writes the table as Read does"
  pub table : t ≡ read_table s m
