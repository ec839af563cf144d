-- Names, and the members of a Group by their names.
use Rattle.std.specs.Prelude.{◌≡◌, Bool, cond, ◌&&◌, List, ℕ, zero, suc, ◌+◌, ◌<◌, ℤ, length, get_or}
use Rattle.std.proofs.Math.Seq.{slice}
use Rattle.cells.specs.Table.{name_start, name_length}
use Rattle.order.specs.Order.{is_member_of}
use Rattle.text.specs.Bytes.{same, lowercase, SameButCase}

-- the bytes of label l's name field
abbrev pub name_of : List ℕ → List ℤ → ℕ → List ℕ
name_of s t l = slice (name_start t l) (name_start t l + name_length t l) s

-- document 02, order 1: "Names now compare without regard to the case of ASCII letters, in member lists and in paths"
unfoldable pub same_name : List ℕ → List ℕ → Bool
same_name x y = same (lowercase x) (lowercase y)

-- two names are so the same exactly where they have one length and their bytes are equal but for case, place by place
pub record NamesButCase (x y : List ℕ) : Type 0 where
  pub size : length x ≡ length y
  pub bytes : (i : ℕ) → i < length x → SameButCase (get_or x i 0) (get_or y i 0)

-- the first of m labels, from l up, that passes the test; 0 where none does
abbrev pub first_label : (ℕ → Bool) → ℕ → ℕ → ℕ
first_label test l zero = 0
first_label test l (suc m) = cond (test l) l (first_label test (suc l) m)

-- m is a member of Group g with the name w
abbrev pub is_named : List ℕ → List ℤ → ℕ → List ℕ → ℕ → Bool
is_named s t g w m = is_member_of t g m && same_name (name_of s t m) w

-- the member of Group g with the name w; 0 where it has none
unfoldable pub member : List ℕ → List ℤ → ℕ → ℕ → List ℕ → ℕ
member s t n g w = first_label (is_named s t g w) 1 n
