-- What a field holds, read in the form that the table of kinds wants.
use Rattle.std.specs.Prelude.{Bool, true, false, List, [], ◌∷◌, ℕ, ℤ, pos, Option, Some, None}
use Rattle.cells.specs.Characters.{hyphen}
use Rattle.numbers.specs.Decimal.{number_of}
use Rattle.text.specs.Bytes.{same}
use Rattle.text.specs.Forms.{is_name, is_path, label_of}
use Rattle.kinds.specs.Kinds.{code_of}
use Rattle.kinds.specs.declared.Form.{Form}
use Rattle.kinds.specs.declared.Form.TheVariants as form

-- `-` alone is a missing field
abbrev pub dash : List ℕ
dash = hyphen ∷ []

-- ---- what a field holds for its cell; none where it is of wrong form

-- a field whose cell is 0, if it is of the right form
abbrev pub blank_if : Bool → Option ℤ
blank_if true = Some (pos 0)
blank_if false = None

abbrev pub from_label : Option ℕ → Option ℤ
from_label (Some v) = Some (pos v)
from_label None = None

-- what the field f of a sheet of n labels holds
unfoldable pub field_of : Form → ℕ → List ℕ → Option ℤ
field_of form.Missing n f = blank_if (same f dash)
field_of form.Name n f = blank_if (is_name f)
field_of form.Path n f = blank_if (is_path f)
field_of form.Group n f = from_label (label_of n f)
field_of form.Operand n f = from_label (label_of n f)
field_of form.Number n f = number_of f

abbrev pub is_right : Option ℤ → Bool
is_right (Some x) = true
is_right None = false

-- what its cell holds; of a line that passes row 7, but for label 1's, no field is wrong
abbrev pub held : Option ℤ → ℤ
held (Some x) = x
held None = pos 0

-- the code of the kind that a line's first field names: one letter of the table; else 0
abbrev pub kind_code : List ℕ → ℕ
kind_code [] = 0
kind_code (x ∷ []) = code_of x
kind_code (x ∷ y ∷ f) = 0
