-- The chain of a Group in order, with the blocks of several opened: in place of such a block stand the values under it, in their order. What
-- lies in or under such a block is opened: no Group of it is listed by itself.
use Rattle.std.specs.Prelude.{◌≡◌, List, [], ◌∷◌, Bool, true, false, cond, ℕ, ◌+◌, ◌≤◌, ◌<◌, ℤ, get_or, Option, None, Some}
use Rattle.cells.specs.Table.{is_definition, owner}
use Rattle.order.specs.LabelLists.{filter, joined}
use Rattle.order.specs.Blocks.{several}
use Rattle.order.specs.Order.{members, needs, Within, ordered, several_plan, group_tangled}
use Rattle.groups.specs.Members.{Chain, NeedRowsFrom, Relinked}

-- what stands in a chain for the block of g that b leads
abbrev pub expanded_block : List ℤ → ℕ → ℕ → ℕ → List ℕ
expanded_block t n g b = cond (several (needs t n) (members t n g) b) (several_plan t n g b) (b ∷ [])

abbrev pub expanded : List ℤ → ℕ → ℕ → List ℕ
expanded t n g = joined (expanded_block t n g) (ordered t n g)

-- definition h is, or lies under, a member of a block of several, in a Group below g
pub record Opened (t : List ℤ) (n g h : ℕ) : Type 0 where
  pub def : is_definition t h ≡ true
  pub member : ℕ
  pub some : 1 ≤ owner t member
  pub early : owner t member < g
  pub many : several (needs t n) (members t n (owner t member)) member ≡ true
  pub inside : Within t member h

-- the Groups below g are done: each one's chain is in order, or it is opened and has none; the chains of the others go upward
pub record Progress (t : List ℤ) (n g : ℕ) (next : List ℕ) : Type 0 where
  pub closed : (h : ℕ) → h ≤ n → Opened t n g h → get_or next h 0 ≡ 0
  pub done : (h : ℕ) → 1 ≤ h → h ≤ n → h < g → (Opened t n g h → ⊥) → Chain n next (get_or next h 0) (expanded t n h)
  pub rest : (h : ℕ) → h ≤ n → g ≤ h → (Opened t n g h → ⊥) → Chain n next (get_or next h 0) (members t n h)

-- the turn of Group g, which is not opened
pub record Openable (t : List ℤ) (n g : ℕ) (next : List ℕ) : Type 0 where
  pub low : 1 ≤ g
  pub high : g ≤ n
  pub progress : Progress t n g next
  pub free : Opened t n g g → ⊥

-- the Group that is stuck, whose turn has come; or there is none, and all are in order
pub record Stopped (t : List ℤ) (n : ℕ) (stuck : Option ℕ) (next square : List ℕ) : Type 0 where
  pub all : stuck ≡ None → Progress t n (n + 1) next
  pub turn : (g : ℕ) → stuck ≡ Some g → Openable t n g next
  pub rows : (g : ℕ) → stuck ≡ Some g → NeedRowsFrom t n g square

-- the members of g that are in blocks of several
abbrev pub tangled_members : List ℤ → ℕ → ℕ → List ℕ
tangled_members t n g = filter (several (needs t n) (members t n g)) (members t n g)

-- Group g has a block of several, and no chain changed; or it is in order
abbrev pub GroupOrder : List ℤ → ℕ → ℕ → List ℕ → List ℕ → Bool → Type 0
GroupOrder t n g next next' true = (group_tangled t n g ≡ true) × (next' ≡ next)
GroupOrder t n g next next' false = Relinked n g (expanded t n g) next next' × (group_tangled t n g ≡ false)

-- r is the first Group from `from` on that is not opened and has a block of several; or there is none, and all are in order
pub record GroupOrders (t : List ℤ) (n from : ℕ) (next' : List ℕ) (r : Option ℕ) : Type 0 where
  pub all : r ≡ None → Progress t n (n + 1) next'
  pub free : r ≡ None → (h : ℕ) → from ≤ h → h ≤ n → (Opened t n h h → ⊥) → group_tangled t n h ≡ false
  pub stuck : (g : ℕ) → r ≡ Some g → (from ≤ g) × (g ≤ n) × Progress t n g next' × (get_or next' g 0 ≡ 0 → ⊥) × (group_tangled t n g ≡ true)
