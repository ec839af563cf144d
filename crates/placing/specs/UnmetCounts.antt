-- The rule of placing by counts of unmet needs: the state between two placings.
use Rattle.std.specs.Prelude.{◌≡◌, ◌⊎◌, ◌↔◌, List, Bool, true, false, not, ◌&&◌, ℕ, ◌+◌, ◌*◌, ◌≤◌, ◌<◌, length, get_or, take}
use Rattle.order.specs.LabelLists.{◌∈◌, mem, filter}
use Rattle.order.specs.Placing.{placed}
use Rattle.marks.specs.Marks.{mark}
pub use Rattle.marks.specs.Marks.{Rising}

-- p needs q: both stand in the mask, and row q of the square has mark p
abbrev pub needed : List ℕ → List ℕ → ℕ → ℕ → ℕ → Bool
needed square mask w p q = mark mask w 0 q && (mark square w q p && mark mask w 0 p)

-- all of l are below k
abbrev pub AllBelow : List ℕ → ℕ → Type 0
AllBelow l k = (p : ℕ) → p ∈ l → p < k

-- row q of the square, with a count for each that the mask has
pub record MaskedRow (square mask unmet : List ℕ) (w q : ℕ) : Type 0 where
  pub narrow : w ≤ 1000
  pub below : q < 64 * w
  pub row : q * w + w ≤ length square
  pub mask_room : w ≤ length mask
  pub counted : (p : ℕ) → mark mask w 0 p ≡ true → p < length unmet

-- the counts stay in 16 bits where each is raised by `more p`
abbrev pub Raisable : (ℕ → ℕ) → List ℕ → Type 0
Raisable more unmet = (p : ℕ) → 0 < more p → get_or unmet p 0 + more p < 65536

-- the count of each p rises by `more p`
abbrev pub RaisedBy : (ℕ → ℕ) → List ℕ → List ℕ → Type 0
RaisedBy more unmet unmet' = (p : ℕ) → get_or unmet' p 0 ≡ get_or unmet p 0 + more p

-- the count of each p falls by `less p`, and what so comes to 0 is ready
pub record LoweredBy (less : ℕ → ℕ) (unmet ready unmet' ready' : List ℕ) (w : ℕ) : Type 0 where
  pub counts : (p : ℕ) → get_or unmet' p 0 + less p ≡ get_or unmet p 0
  pub kept : (p : ℕ) → mark ready w 0 p ≡ true → mark ready' w 0 p ≡ true
  pub new : (p : ℕ) → 0 < less p → get_or unmet' p 0 ≡ 0 → mark ready' w 0 p ≡ true
  pub only : (p : ℕ) → mark ready' w 0 p ≡ true → (mark ready w 0 p ≡ true) ⊎ ((0 < less p) × (get_or unmet' p 0 ≡ 0))

-- the items go upward and have rows and marks; the mask has items alone
pub record InRows (items square mask : List ℕ) (w : ℕ) : Type 0 where
  pub rising : Rising items
  pub narrow : w ≤ 1000
  pub below : AllBelow items (64 * w)
  pub rows : (p : ℕ) → p ∈ items → p * w + w ≤ length square
  pub masked : (p : ℕ) → mark mask w 0 p ≡ true → p ∈ items
  pub mask_room : w ≤ length mask

-- and have counts
pub record Fits (items square mask unmet : List ℕ) (w : ℕ) : Type 0 where
  pub in_rows : InRows items square mask w
  pub few : length items < 65536
  pub counted : AllBelow items (length unmet)

-- what needs an item stands behind it
abbrev pub Ordered : (ℕ → ℕ → Bool) → List ℕ → Type 0
Ordered R items = (p q : ℕ) → q ∈ items → R p q ≡ true → q < p

-- p needs q, and q is not done
abbrev pub blocks : (ℕ → ℕ → Bool) → List ℕ → ℕ → ℕ → Bool
blocks R done p q = R p q && not (mem q done)

-- with `done` placed: each item's count of unmet needs, and the items that may be placed
pub record State (R : ℕ → ℕ → Bool) (items done unmet ready : List ℕ) (w : ℕ) : Type 0 where
  pub counts : (p : ℕ) → p ∈ items → get_or unmet p 0 ≡ length (filter (blocks R done p) items)
  pub met : (p : ℕ) → p ∈ done → get_or unmet p 0 ≡ 0
  pub free : (p : ℕ) → (mark ready w 0 p ≡ true) ↔ ((p ∈ items) × (mem p done ≡ false) × (get_or unmet p 0 ≡ 0))

-- the first r of the order are what the rule places
pub record Placed (R : ℕ → ℕ → Bool) (items order : List ℕ) (r : ℕ) : Type 0 where
  pub cells : take r order ≡ placed R items
  pub within : r ≤ length items
