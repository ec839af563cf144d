-- Order 4: "After each pair all values that mention that number's owner by any chain, or are its owner, and no others, are worked out
-- again".
use Rattle.std.specs.Prelude.{◌≡◌, List, ◌∷◌, ◌++◌, ◌↔◌, ℕ, ◌≤◌, ℤ, length}
use Rattle.kinds.specs.Kinds.{value_code}
use Rattle.cells.specs.Table.{kind, target}
use Rattle.order.specs.LabelLists.{count, ◌∈◌}
use Rattle.order.specs.Evaluating.{down}
use Rattle.numbers.specs.declared.Arithmetic.{Arithmetic}
use Rattle.evaluation.specs.Results.{stored}
use Rattle.figures.specs.Figures.{figures, result_cells, evaluate_into}
use Rattle.figures.specs.Entered.{EntersRead}
use Rattle.redoing.specs.Redone.{Redone, redone_of, redone_count}

-- The table of n labels was t before the pair and is u after it, with the pair's number in a line that d owns; results have q cells. The plan
-- is o, and those of its values that are worked out again are, in its sequence, redoneOf u n d o.
pub record PairRedone (α : Arithmetic) (t u : List ℤ) (n d : ℕ) (o : List ℕ) (q : ℕ) : Type 0 where
  -- these and no others,
  pub exactly : (v : ℕ) → (v ∈ redone_of u n d o) ↔ ((kind u v ≡ value_code) × Redone u d v)
  -- each of them once,
  pub once : (v : ℕ) → count v (redone_of u n d o) ≤ 1
  -- and so many
  pub many : length (redone_of u n d o) ≡ redone_count u n d
  -- working them out in turn, from the results before the pair, one comes to the results of the table after it
  pub reached : down (evaluate_into α u) (redone_of u n d o) (result_cells α t n q) ≡ result_cells α u n q
  -- no other value's figures would have changed
  pub others : (v : ℕ) → (Redone u d v → ⊥) → figures α u n v ≡ figures α t n v
  -- at each one's turn, every R entered finds its target's figures of the table after the pair
  pub found : (a : List ℕ) (v : ℕ) (b : List ℕ) → redone_of u n d o ≡ a ++ v ∷ b → (x : ℕ) → EntersRead α u (down (evaluate_into α u) a (result_cells α t n q)) v x
      → stored (down (evaluate_into α u) a (result_cells α t n q)) (target u x) ≡ figures α u n (target u x)
