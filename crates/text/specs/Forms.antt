-- The forms of a field that document 01, "The sheet", defines: name, path and label field. Its numbers are those of the crate `numbers`.
use Rattle.std.specs.Prelude.{Bool, true, ◌&&◌, List, [], ◌∷◌, Option, Some, None, ℕ, zero, suc, leb, length, get_or}
use Rattle.cells.specs.Limits.{name_limit, path_limit}
use Rattle.cells.specs.Characters.{dot}
use Rattle.numbers.specs.Decimal.{decimal_of}
use Rattle.text.specs.Bytes.{all, is_letter, is_alphanumeric}
use Rattle.text.specs.Pieces.{cut}

-- a name is 1 to 16 ASCII letters or digits, a letter first
unfoldable pub is_name : List ℕ → Bool
is_name f = leb 1 (length f) && leb (length f) name_limit && is_letter (get_or f 0 0) && all is_alphanumeric f

abbrev pub all_names : List (List ℕ) → Bool
all_names [] = true
all_names (f ∷ fs) = is_name f && all_names fs

-- a path is 1 to 8 names joined by dots; `cut` gives one piece at least
unfoldable pub is_path : List ℕ → Bool
is_path f = leb (length (cut dot f)) path_limit && all_names (cut dot f)

abbrev pub from_one : Option ℕ → Option ℕ
from_one (Some zero) = None
from_one (Some (suc v)) = Some (suc v)
from_one None = None

-- a label field is decimal, 1 to n, no leading zero
unfoldable pub label_of : ℕ → List ℕ → Option ℕ
label_of n f = from_one (decimal_of n f)
