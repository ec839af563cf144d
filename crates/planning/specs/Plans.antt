-- What planning replies, and the plan's cells.
use Rattle.std.specs.Prelude.{◌≡◌, List, ◌++◌, map, ℤ, pos, length, drop, Result, Ok, Err}
use Rattle.order.specs.Order.{Answer, cycle, whole, mixed, order_of}
use Rattle.planning.specs.declared.Plan.{Plan}
use Rattle.planning.specs.declared.Plan.TheVariants.{Whole, Mixed}
use Rattle.planning.specs.declared.Cycle.{Cycle}

-- the place of row 16, or the plan's length
abbrev pub planned_by : Answer → Result Plan Cycle
planned_by (cycle v) = Err (record { label = v })
planned_by (whole o) = Ok (Whole (length o))
planned_by (mixed o) = Ok (Mixed (length o))

-- the order's labels, and then the cells as they were
abbrev pub plan_written : Answer → List ℤ → List ℤ
plan_written a plan = map pos (order_of a) ++ drop (length (order_of a)) plan

pub record PlanIs (a : Answer) (plan plan' : List ℤ) (r : Result Plan Cycle) : Type 0 where
  pub reply : r ≡ planned_by a
  pub cells : plan' ≡ plan_written a plan
