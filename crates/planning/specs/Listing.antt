-- Labels put into the plan.
use Rattle.std.specs.Prelude.{◌≡◌, List, ◌++◌, map, ℕ, ◌+◌, ◌-◌, ℤ, pos, length, take, drop}
use Rattle.order.specs.Order.{group_plan}

-- what Group g lists: a member's label is above its Group's, so this is deep enough
abbrev pub list_of : List ℤ → ℕ → ℕ → List ℕ
list_of t n g = group_plan t n (n + 1 - g) g

-- l stands in the plan from `at` up to r, and the rest is as it was
pub record PutAt (l : List ℕ) (at : ℕ) (plan plan' : List ℤ) (r : ℕ) : Type 0 where
  pub end : r ≡ at + length l
  pub cells : take r plan' ≡ take at plan ++ map pos l
  pub rest : drop r plan' ≡ drop r plan
