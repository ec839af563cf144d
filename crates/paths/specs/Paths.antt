-- Document 01, "Paths", and rows 12 to 15, over the text s and a table t of n labels with its owners.
use Rattle.std.specs.Prelude.{cond, not, ◌&&◌, List, [], ◌∷◌, ℕ, zero, suc, ◌-◌, eqb, ℤ, drop, Option, Some, None}
use Rattle.kinds.specs.Kinds.{group_code, wanted_by}
use Rattle.cells.specs.Characters.{dot}
use Rattle.cells.specs.Lists.{or_if_zero}
use Rattle.cells.specs.Table.{kind, owner, is_definition, has_path}
use Rattle.refusals.specs.Rows.{duplicate_row, head_row, later_row, target_row}
use Rattle.refusals.specs.declared.Row.{Row}
use Rattle.refusals.specs.Refusal.{Verdict, first_bad, or_else}
use Rattle.text.specs.Pieces.{cut, first_of}
use Rattle.paths.specs.Names.{name_of, first_label, is_named, member}

-- row 12: a smaller label in its Group has that name
unfoldable pub duplicate_bad : List ℕ → List ℤ → ℕ → Option Row
duplicate_bad s t l =
    cond (is_definition t l && not (eqb (first_label (is_named s t (owner t l) (name_of s t l)) 1 (l - 1)) 0)) (Some duplicate_row) None

-- "The head (first name) is looked for among that Group's members, then in the Group around it, outward; the first Group with such a member settles
-- the head": from Group g, at most k Groups; 0 where none has such a member
abbrev pub settled : List ℕ → List ℤ → ℕ → List ℕ → ℕ → ℕ → ℕ
settled s t n w zero g = 0
settled s t n w (suc k) g = cond (eqb g 0) 0 (or_if_zero (member s t n g w) (settled s t n w k (owner t g)))

-- g Groups are enough, since a Group's label is above that of the Group around it
unfoldable pub head_from : List ℕ → List ℤ → ℕ → List ℕ → ℕ → ℕ
head_from s t n w g = settled s t n w g g

-- "Each later name must be a member of the Group found so far"; 0 where it is not, or the definition found is no Group
abbrev pub below : List ℕ → List ℤ → ℕ → ℕ → List ℕ → ℕ
below s t n m w = cond (eqb (kind t m) group_code) (member s t n m w) 0

abbrev pub descended : List ℕ → List ℤ → ℕ → ℕ → List (List ℕ) → ℕ
descended s t n m [] = m
descended s t n m (w ∷ ws) = descended s t n (below s t n m w) ws

-- the names of the path of an R or C
abbrev pub names_of : List ℕ → List ℤ → ℕ → List (List ℕ)
names_of s t x = cut dot (name_of s t x)

-- "The search starts in the Group whose member is the owner": where the head is settled, and where the path ends
unfoldable pub head_of : List ℕ → List ℤ → ℕ → ℕ → ℕ
head_of s t n x = head_from s t n (first_of (names_of s t x)) (owner t (owner t x))

unfoldable pub target_of : List ℕ → List ℤ → ℕ → ℕ → ℕ
target_of s t n x = descended s t n (head_of s t n x) (drop 1 (names_of s t x))

-- rows 13 to 15
unfoldable pub path_head_bad : List ℕ → List ℤ → ℕ → ℕ → Option Row
path_head_bad s t n x = cond (has_path t x && eqb (head_of s t n x) 0) (Some head_row) None

unfoldable pub later_bad : List ℕ → List ℤ → ℕ → ℕ → Option Row
later_bad s t n x = cond (has_path t x && eqb (target_of s t n x) 0) (Some later_row) None

-- "R needs a V, C needs an F": what a path must end at is read off the table of kinds
unfoldable pub target_bad : List ℕ → List ℤ → ℕ → ℕ → Option Row
target_bad s t n x = cond (has_path t x && not (eqb (kind t (target_of s t n x)) (wanted_by (kind t x)))) (Some target_row) None

-- rows 12 to 15, each its own pass upward through the labels
abbrev pub later_rows : List ℕ → List ℤ → ℕ → Verdict
later_rows s t n = or_else (first_bad (later_bad s t n) 1 n) (first_bad (target_bad s t n) 1 n)

abbrev pub head_rows : List ℕ → List ℤ → ℕ → Verdict
head_rows s t n = or_else (first_bad (path_head_bad s t n) 1 n) (later_rows s t n)

unfoldable pub paths_bad : List ℕ → List ℤ → ℕ → Verdict
paths_bad s t n = or_else (first_bad (duplicate_bad s t) 1 n) (head_rows s t n)

-- the cell target: of an R or C where its path ends, of any other line 0
abbrev pub target_cell : List ℕ → List ℤ → ℕ → ℕ → ℕ
target_cell s t n x = cond (has_path t x) (target_of s t n x) 0
