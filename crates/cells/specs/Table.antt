-- A table has eight cells a label, labels from 1: label l's start at index 8 * (l - 1).
-- Structure is read in ℕ: a cell is 0 of label 0, past the end, and where it is negative.
use Rattle.std.specs.Prelude.{Bool, ℕ, zero, suc, ◌+◌, ◌*◌, List, ℤ, pos, set}
use Rattle.kinds.specs.Kinds as kinds
use Rattle.cells.specs.Cells.{int_at, nat_at}

-- cell j (0 to 7) of label l
abbrev pub cell : List ℤ → ℕ → ℕ → ℕ
cell t zero j = 0
cell t (suc k) j = nat_at t (8 * k + j)

-- the same cell as it stands
abbrev pub entry : List ℤ → ℕ → ℕ → ℤ
entry t zero j = pos 0
entry t (suc k) j = int_at t (8 * k + j)

-- the kind code
abbrev pub kind : List ℤ → ℕ → ℕ
kind t l = cell t l 0

-- what line l is, by its kind; label 0, and one past the last, is none of these
abbrev pub is_definition : List ℤ → ℕ → Bool
is_definition t l = kinds.is_definition (kind t l)

abbrev pub is_expression : List ℤ → ℕ → Bool
is_expression t l = kinds.is_expression (kind t l)

abbrev pub has_body : List ℤ → ℕ → Bool
has_body t l = kinds.has_body (kind t l)

abbrev pub has_path : List ℤ → ℕ → Bool
has_path t l = kinds.has_path (kind t l)

-- the byte start (from 0) and the length of the name field; 0 and 0 for `-`
abbrev pub name_start : List ℤ → ℕ → ℕ
name_start t l = cell t l 1

abbrev pub name_length : List ℤ → ℕ → ℕ
name_length t l = cell t l 2

-- the fields a, b and c as labels; 0 for `-`
abbrev pub field_a : List ℤ → ℕ → ℕ
field_a t l = cell t l 3

abbrev pub field_b : List ℤ → ℕ → ℕ
field_b t l = cell t l 4

abbrev pub field_c : List ℤ → ℕ → ℕ
field_c t l = cell t l 5

-- the owner: a definition's Group, an expression's definition
abbrev pub owner : List ℤ → ℕ → ℕ
owner t l = cell t l 6

-- the target of an R or C line, else 0
abbrev pub target : List ℤ → ℕ → ℕ
target t l = cell t l 7

-- the number of an N line: its field a, which is any integer
abbrev pub line_number : List ℤ → ℕ → ℤ
line_number t l = entry t l 3

-- the table t in which cell j of each label from 1 to n is what f says of the label
abbrev pub with_column : ℕ → (ℕ → ℕ) → ℕ → List ℤ → List ℤ
with_column j f zero t = t
with_column j f (suc k) t = set (with_column j f k t) (8 * k + j) (pos (f (suc k)))

-- the table t with z in cell a of label l, an N line's number; label 0 has none
abbrev pub with_number : ℕ → ℤ → List ℤ → List ℤ
with_number zero z t = t
with_number (suc k) z t = set t (8 * k + 3) z
