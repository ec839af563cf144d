-- An order list followed by a row of marks, which has what the list has still to name.
use Rattle.std.specs.Prelude.{◌≡◌, List, Bool, true, not, ◌&&◌, ◌||◌, ℕ, ◌*◌, ℤ}
use Rattle.order.specs.LabelLists.{mem, up_from, any}
use Rattle.order.specs.Order.{is_v}
use Rattle.marks.specs.Marks.{mark}
use Rattle.reach.specs.MarkRows.{width}

-- the first row has the values, and nothing else
abbrev pub Values : List ℤ → ℕ → List ℕ → Type 0
Values t n row = (q : ℕ) → mark row (width n) 0 q ≡ is_v t q

-- the first row of `left` has the marks of `row` that are not in `seen`
abbrev pub Left : List ℕ → ℕ → List ℕ → List ℕ → Type 0
Left row w seen left = (q : ℕ) → mark left w 0 q ≡ (mark row w 0 q && not (mem q seen))

-- v is not marked, or stands in `seen`
unfoldable pub lacks : List ℕ → ℕ → List ℕ → ℕ → Bool
lacks row w seen v = not (mark row w 0 v) || mem v seen

-- row v of the square has a mark of `row` that is not in `seen`
unfoldable pub awaits : List ℕ → List ℕ → ℕ → List ℕ → ℕ → Bool
awaits square row w seen v = any (λ q. mark square w v q && (mark row w 0 q && not (mem q seen))) (up_from 0 (64 * w))

-- row v of the square and the first row of `left` have a mark in common
pub record Meets (square left : List ℕ) (w v : ℕ) : Type 0 where
  pub at : ℕ
  pub here : mark square w v at ≡ true
  pub there : mark left w 0 at ≡ true
