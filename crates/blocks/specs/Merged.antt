-- The rows of each block made one: what is asked of the rows, what each pass leaves, and what they say at the end.
use Rattle.std.specs.Prelude.{◌≡◌, ◌⊎◌, ◌↔◌, List, Bool, true, ℕ, ◌+◌, ◌*◌, ◌≤◌, ◌<◌, eqb, length, get_or, take}
use Rattle.order.specs.LabelLists.{◌∈◌}
use Rattle.order.specs.Blocks.{leaders, block_needs}
use Rattle.marks.specs.Marks.{mark}
use Rattle.placing.specs.UnmetCounts.{Rising, AllBelow, needed}
use Rattle.blocks.specs.Found.{Led}

-- x leads its block, by the leads that were found
abbrev pub heads : List ℕ → ℕ → Bool
heads lead x = eqb (get_or lead x 0) x

-- the items go upward and have leads, rows and marks; each item's lead is an item that leads itself
pub record Mergeable (items lead square : List ℕ) (w : ℕ) : Type 0 where
  pub rising : Rising items
  pub narrow : w ≤ 1000
  pub below : AllBelow items (64 * w)
  pub leading : AllBelow items (length lead)
  pub rows : (p : ℕ) → p ∈ items → p * w + w ≤ length square
  pub item : (p : ℕ) → p ∈ items → get_or lead p 0 ∈ items
  pub head : (p : ℕ) → p ∈ items → get_or lead (get_or lead p 0) 0 ≡ get_or lead p 0

-- one of l has lead b, and its row has mark p
abbrev pub RowFrom : List ℕ → List ℕ → List ℕ → ℕ → ℕ → ℕ → Type 0
RowFrom l lead s w b p = (x : ℕ) × (x ∈ l) × (get_or lead x 0 ≡ b) × (mark s w x p ≡ true)

-- the rows of those of l are added to those of their leads; those that do not lead are followers
pub record Joined (l lead s s' followers : List ℕ) (w : ℕ) : Type 0 where
  pub follow : (x : ℕ) → (mark followers w 0 x ≡ true) ↔ ((x ∈ l) × (get_or lead x 0 ≡ x → ⊥))
  pub row : (b p : ℕ) → (mark s' w b p ≡ true) ↔ ((mark s w b p ≡ true) ⊎ RowFrom l lead s w b p)

-- followers have leads, and the leads have marks
abbrev pub Following : List ℕ → List ℕ → ℕ → Type 0
Following lead followers w = (y : ℕ) → mark followers w 0 y ≡ true → (y < length lead) × (get_or lead y 0 < 64 * w)

-- q is the lead of one of l
abbrev pub LeadOf : List ℕ → List ℕ → ℕ → Type 0
LeadOf l lead q = (y : ℕ) × (y ∈ l) × (get_or lead y 0 ≡ q)

-- row x, with the marks of the leads of the followers that it has, and without its own
abbrev pub Closed : List ℕ → List ℕ → List ℕ → ℕ → ℕ → ℕ → Type 0
Closed lead s followers w x q = (q ≡ x → ⊥) × ((mark s w x q ≡ true) ⊎ ((y : ℕ) × (mark s w x y ≡ true) × (mark followers w 0 y ≡ true) × (get_or lead y 0 ≡ q)))

-- row x is so, and no other changed
pub record ClosedRow (lead s s' followers : List ℕ) (w x : ℕ) : Type 0 where
  pub row : (q : ℕ) → (mark s' w x q ≡ true) ↔ Closed lead s followers w x q
  pub others : (a q : ℕ) → (a ≡ x → ⊥) → mark s' w a q ≡ mark s w a q

-- the rows of those of l that lead are so, and no other changed
pub record ClosedRows (l lead s s' followers : List ℕ) (w : ℕ) : Type 0 where
  pub row : (x q : ℕ) → x ∈ l → get_or lead x 0 ≡ x → (mark s' w x q ≡ true) ↔ Closed lead s followers w x q
  pub others : (a q : ℕ) → (a ∈ l → get_or lead a 0 ≡ a → ⊥) → mark s' w a q ≡ mark s w a q

-- by whatever mask the leads were found, the rows of leaders say which block needs which; rows of labels that are no items are as they
-- were; the followers are marked
pub record Merged (items lead s s' followers : List ℕ) (w : ℕ) : Type 0 where
  pub needs : (mask : List ℕ) → Led (needed s mask w) items lead → (b c : ℕ) → b ∈ leaders (needed s mask w) items → c ∈ leaders (needed s mask w) items
      → needed s' mask w c b ≡ block_needs (needed s mask w) items c b
  pub others : (q p : ℕ) → (q ∈ items → ⊥) → mark s' w q p ≡ mark s w q p
  pub follow : (x : ℕ) → (mark followers w 0 x ≡ true) ↔ ((x ∈ items) × (get_or lead x 0 ≡ x → ⊥))

-- the first r of a list are the leaders, by whatever needs the leads were found
pub record LeadersGathered (items lead out : List ℕ) (r : ℕ) : Type 0 where
  pub cells : (R : ℕ → ℕ → Bool) → Led R items lead → take r out ≡ leaders R items
  pub within : r ≤ length items
