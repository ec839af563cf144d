-- The order list that Follow is handed, and rows 17 and 18. Cells are any integers; a place is a position from 1, and 0 where the row
-- finds nothing.
use Rattle.std.specs.Prelude.{◌≡◌, ◌⊎◌, List, [], ◌∷◌, ◌++◌, map, Bool, cond, not, ◌&&◌, ◌||◌, ℕ, zero, suc, ℤ, pos, length}
use Rattle.kinds.specs.Kinds.{value_code}
use Rattle.cells.specs.Cells.{nat_of}
use Rattle.cells.specs.Lists.{or_if_zero}
use Rattle.cells.specs.Table.{kind}
use Rattle.cells.specs.Reaches.{Reaches}
use Rattle.order.specs.LabelLists.{◌∈◌, mem, any}
use Rattle.order.specs.Order.{is_v, values, reaches, Proper}

-- a list of integers is a proper order if its cells are the labels of one
pub record ProperList (t : List ℤ) (cells : List ℤ) : Type 0 where
  pub order : List ℕ
  pub same : cells ≡ map pos order
  pub proper : Proper t order

-- the labels that the cells name: a negative cell names none, as 0 does
abbrev pub labels_of : List ℤ → List ℕ
labels_of cells = map nat_of cells

-- ---- the places, computed

-- the first position of l, counted on from k, whose label is bad after the labels before it, of which those of `seen` are the first
abbrev pub first_position : (List ℕ → ℕ → Bool) → List ℕ → ℕ → List ℕ → ℕ
first_position bad seen k [] = 0
first_position bad seen k (v ∷ l) = cond (bad seen v) k (first_position bad (seen ++ v ∷ []) (suc k) l)

-- "is no V label or repeats one"
abbrev pub not_new : List ℤ → List ℕ → ℕ → Bool
not_new t seen v = not (is_v t v) || mem v seen

-- "a V is missing"
abbrev pub missing : List ℤ → ℕ → List ℕ → Bool
missing t n l = any (λ v. not (mem v l)) (values t n)

-- "reaches a V not listed earlier"
abbrev pub early : List ℤ → ℕ → List ℕ → ℕ → Bool
early t n seen v = any (λ w. reaches t n v w && not (mem w seen)) (values t n)

-- row 17: "first position (from 1) that is no V label or repeats one; else, if a V is missing, length + 1"
abbrev pub place17 : List ℤ → ℕ → List ℤ → ℕ
place17 t n cells = or_if_zero (first_position (not_new t) [] 1 (labels_of cells)) (cond (missing t n (labels_of cells)) (suc (length cells)) 0)

-- row 18: "first position whose label reaches a V not listed earlier"
abbrev pub place18 : List ℤ → ℕ → List ℤ → ℕ
place18 t n cells = first_position (early t n) [] 1 (labels_of cells)

-- ---- the places, said without tests

abbrev pub NotNew : List ℤ → List ℕ → ℕ → Type 0
NotNew t seen v = (kind t v ≡ value_code → ⊥) ⊎ (v ∈ seen)

abbrev pub Missing : List ℤ → List ℕ → Type 0
Missing t l = (v : ℕ) × (kind t v ≡ value_code) × (v ∈ l → ⊥)

abbrev pub Early : List ℤ → List ℕ → ℕ → Type 0
Early t seen v = (w : ℕ) × (kind t w ≡ value_code) × Reaches t v w × (w ∈ seen → ⊥)

-- nothing in l is bad after what stands before it
abbrev pub NoneBad : (List ℕ → ℕ → Type 0) → List ℕ → Type 0
NoneBad Bad l = (a : List ℕ) (v : ℕ) (b : List ℕ) → l ≡ a ++ v ∷ b → Bad a v → ⊥

-- position k of l is the first that is
pub record FirstPosition (Bad : List ℕ → ℕ → Type 0) (l : List ℕ) (k : ℕ) : Type 0 where
  pub before : List ℕ
  pub label : ℕ
  pub behind : List ℕ
  pub parts : l ≡ before ++ label ∷ behind
  pub position : k ≡ suc (length before)
  pub bad : Bad before label
  pub fine : NoneBad Bad before

-- what a row finds that asks only for such a position
abbrev pub Found : (List ℕ → ℕ → Type 0) → List ℕ → ℕ → Type 0
Found Bad l zero = NoneBad Bad l
Found Bad l (suc k) = FirstPosition Bad l (suc k)

abbrev pub Row17 : List ℤ → List ℕ → ℕ → Type 0
Row17 t l zero = NoneBad (NotNew t) l × (Missing t l → ⊥)
Row17 t l (suc k) = FirstPosition (NotNew t) l (suc k) ⊎ (NoneBad (NotNew t) l × Missing t l × (k ≡ length l))

abbrev pub Row18 : List ℤ → List ℕ → ℕ → Type 0
Row18 t l k = Found (Early t) l k
