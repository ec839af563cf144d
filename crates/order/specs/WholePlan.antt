-- Document 01's rule for a whole plan, as it stood before order 2. It is kept for one theorem, `untangled_plan`: where no block has several
-- members, the plan is still this one, label for label. No call is defined by it.
use Rattle.std.specs.Prelude.{List, [], ℕ, zero, suc, ℤ}
use Rattle.order.specs.LabelLists.{joined}
use Rattle.order.specs.Placing.{placed}
use Rattle.order.specs.Order.{members, needs, listed}

-- "in a Group, repeatedly place the smallest-labelled member not yet placed whose needed members are all placed"
abbrev pub whole_ordered : List ℤ → ℕ → ℕ → List ℕ
whole_ordered t n g = placed (needs t n) (members t n g)

-- "a G is listed by the same rule in its place": what Group g lists, its Groups at most k deep
abbrev pub whole_group : List ℤ → ℕ → ℕ → ℕ → List ℕ
whole_group t n zero g = []
whole_group t n (suc k) g = joined (listed t (λ p. whole_group t n k p)) (whole_ordered t n g)

abbrev pub whole_plan : List ℤ → ℕ → List ℕ
whole_plan t n = whole_group t n n 1
