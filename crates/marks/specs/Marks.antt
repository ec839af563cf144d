-- Rows of marks in words of 64 bits. A square of rows has w words a row; row p starts at index p * w, and its mark q is bit q % 64 of its
-- word q / 64. A row has 64 * w marks, and no mark past them is set.
use Rattle.std.specs.Prelude.{◌≡◌, ◌⊎◌, List, [], ◌∷◌, Bool, true, false, cond, ◌&&◌, ℕ, zero}
use Rattle.std.specs.Prelude.{◌++◌, bit_and, suc, ◌+◌, ◌*◌, ◌/◌, ◌%◌, ◌≤◌, ◌<◌, eqb, ltb, length, get_or, take}
use Rattle.order.specs.LabelLists.{one, count, ◌∈◌}

-- bit j of x, from 0
abbrev pub bit : ℕ → ℕ → Bool
bit x zero = eqb (x % 2) 1
bit x (suc j) = bit (x / 2) j

unfoldable pub mark : List ℕ → ℕ → ℕ → ℕ → Bool
mark s w p q = ltb q (64 * w) && bit (get_or s (p * w + q / 64) 0) (q % 64)

-- there is a mark q in row p
abbrev pub InSquare : List ℕ → ℕ → ℕ → ℕ → Type 0
InSquare s w p q = (q < 64 * w) × (p * w + w ≤ length s)

-- row p gained what P says, and nothing else changed
pub record Added (P : ℕ → Type 0) (s s' : List ℕ) (w p : ℕ) : Type 0 where
  pub others : (a q : ℕ) → (a ≡ p → ⊥) → mark s' w a q ≡ mark s w a q
  pub kept : (q : ℕ) → mark s w p q ≡ true → mark s' w p q ≡ true
  pub new : (q : ℕ) → q < 64 * w → P q → mark s' w p q ≡ true
  pub only : (q : ℕ) → mark s' w p q ≡ true → (mark s w p q ≡ true) ⊎ P q

-- row p lost mark q, and nothing else changed
pub record Dropped (s s' : List ℕ) (w p q : ℕ) : Type 0 where
  pub gone : mark s' w p q ≡ false
  pub others : (a b : ℕ) → (a ≡ p → b ≡ q → ⊥) → mark s' w a b ≡ mark s w a b

-- the places of the bits of x, of which it has k, counted on from m, upward
unfoldable pub places : ℕ → ℕ → ℕ → List ℕ
places zero m x = []
places (suc k) m x = cond (eqb (x % 2) 1) (m ∷ places k (suc m) (x / 2)) (places k (suc m) (x / 2))

-- the first r of the list are the marks that row p and the first row of a mask have in common, each once
abbrev pub Common : List ℕ → List ℕ → ℕ → ℕ → List ℕ → ℕ → Type 0
Common s mask w p list r = (q : ℕ) → count q (take r list) ≡ one (mark s w p q && mark mask w 0 q)

-- upward
abbrev pub Rising : List ℕ → Type 0
Rising [] = Unit {0}
Rising (x ∷ l) = ((y : ℕ) → y ∈ l → x < y) × Rising l

-- r is the first mark of the first row
pub record First (s : List ℕ) (w r : ℕ) : Type 0 where
  pub within : r < 64 * w
  pub here : mark s w 0 r ≡ true
  pub before : (q : ℕ) → q < r → mark s w 0 q ≡ false

-- the places of the bits that words have in common, one by one, counted on from m, upward
unfoldable pub shared : ℕ → List ℕ → List ℕ → List ℕ
shared m [] ys = []
shared m (x ∷ xs) [] = []
shared m (x ∷ xs) (y ∷ ys) = places 64 m (bit_and x y) ++ shared (m + 64) xs ys
