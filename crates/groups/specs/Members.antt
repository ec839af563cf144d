-- The members of each Group in a chain, in one array: the first of Group g at index g, the one after p at index n + p; 0 ends. At first they
-- go upward; when a Group is ordered, its chain is put in that order.
use Rattle.std.specs.Prelude.{◌≡◌, ◌↔◌, List, [], ◌∷◌, Bool, true, false, ℕ, ◌+◌, ◌≤◌, ◌<◌, ℤ, length, get_or, take}
use Rattle.kinds.specs.GivesValues.{gives_values}
use Rattle.cells.specs.Table.{kind, is_definition, owner}
use Rattle.order.specs.LabelLists.{◌∈◌}
use Rattle.order.specs.Order.{is_v, members, needs}
use Rattle.marks.specs.Marks.{mark}
use Rattle.needs.specs.Needs.{Holder}
use Rattle.placing.specs.UnmetCounts.{Rising}
use Rattle.reach.specs.MarkRows.{width}

-- from p on stand the labels of l
abbrev pub Chain : ℕ → List ℕ → ℕ → List ℕ → Type 0
Chain n next p [] = p ≡ 0
Chain n next p (x ∷ l) = (p ≡ x) × (1 ≤ x) × Chain n next (get_or next (n + x) 0) l

-- the chain of each Group is its members, upward
abbrev pub Chained : List ℤ → ℕ → List ℕ → Type 0
Chained t n next = (g : ℕ) → g ≤ n → Chain n next (get_or next g 0) (members t n g)

-- a list of labels that is linked from p on, for which there is room
pub record WalkableChain (n : ℕ) (next : List ℕ) (p room : ℕ) : Type 0 where
  pub labels : List ℕ
  pub chain : Chain n next p labels
  pub below : (x : ℕ) → x ∈ labels → x ≤ n
  pub fits : length labels ≤ room

-- l stands in front of the items
pub record Gathered (l items : List ℕ) (r : ℕ) : Type 0 where
  pub cells : take r items ≡ l
  pub within : r ≤ length items

-- items go upward and are definitions
pub record Items (t : List ℤ) (items : List ℕ) : Type 0 where
  pub rising : Rising items
  pub defs : (p : ℕ) → p ∈ items → is_definition t p ≡ true

-- the rows of those that have values in them, and lie in Group g or in one of a larger label
abbrev pub NeedRowsFrom : List ℤ → ℕ → ℕ → List ℕ → Type 0
NeedRowsFrom t n g square = (p q : ℕ) → Holder t p → Holder t q → g ≤ owner t q → mark square (width n) q p ≡ needs t n p q

-- the rows of items
abbrev pub NeedRowsOf : List ℤ → ℕ → List ℕ → List ℕ → Type 0
NeedRowsOf t n items square = (p q : ℕ) → p ∈ items → q ∈ items → Holder t p → Holder t q → mark square (width n) q p ≡ needs t n p q

-- room for placing n labels
pub record Scratch (n : ℕ) (mask unmet ready order : List ℕ) : Type 0 where
  pub masks : width n ≤ length mask
  pub counts : n < length unmet
  pub readies : width n ≤ length ready
  pub orders : n < length order

-- a value, or a Group if those are wanted too
abbrev pub is_masked : List ℤ → Bool → ℕ → Bool
is_masked t true p = gives_values (kind t p)
is_masked t false p = is_v t p

-- the mask has those among the items
abbrev pub MaskedBy : List ℤ → ℕ → Bool → List ℕ → List ℕ → Type 0
MaskedBy t n groups items mask = (p : ℕ) → (mark mask (width n) 0 p ≡ true) ↔ ((p ∈ items) × (is_masked t groups p ≡ true))

-- Group g's chain has become l, and no cell changed but those of the Group and of l
pub record Relinked (n g : ℕ) (l next next' : List ℕ) : Type 0 where
  pub chain : Chain n next' (get_or next' g 0) l
  pub others : (y : ℕ) → (y ≡ g → ⊥) → ((x : ℕ) → x ∈ l → y ≡ n + x → ⊥) → get_or next' y 0 ≡ get_or next y 0
