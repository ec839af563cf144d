-- Demand 3, in the owner's order of sentences, of a sheet that reads with buffers long enough: t is its table. And what it means that Run
-- and Follow work down an order.
use Rattle.std.specs.Prelude.{◌≡◌, ◌↔◌, List, ℕ, ℤ, length, take}
use Rattle.kinds.specs.Kinds.{value_code}
use Rattle.cells.specs.Cells.{zeros}
use Rattle.cells.specs.Table.{kind}
use Rattle.numbers.specs.declared.Arithmetic.{Arithmetic}
use Rattle.refusals.specs.Rows.{cycle_row, row_number}
use Rattle.refusals.specs.Refusal as refusal
use Rattle.order.specs.Order.{Proper, Whole}
use Rattle.order.specs.Tangles.{ClearSideBySide}
use Rattle.order.specs.Following.{ProperList, labels_of}
use Rattle.order.specs.Evaluating.{down, label_cells}
use Rattle.lines.specs.Lines.{arithmetic_of}
use Rattle.reading.specs.Read.{sheet_table}
use Rattle.figures.specs.Figures.{Evaluated, evaluate_into}
use Rattle.figures.specs.Entered.{NeverEarly}
use Rattle.calls.specs.Plan.{plan_reply, plan_cells, plan_refusal, length_of, whole_or_mixed, PlanReply}
use Rattle.calls.specs.Run.{run_results}
use Rattle.calls.specs.Follow.{follow_reply, follow_results}

-- the reply r, and the cells of the plan as Plan or Run leaves them
pub record PlanKept (t : List ℤ) (r : PlanReply) (cells : List ℤ) : Type 0 where
  -- "Plan refuses with 16 exactly when there is no proper order"
  pub refuses : (plan_refusal r ≡ row_number cycle_row) ↔ ((o : List ℕ) → Proper t o → ⊥)
  -- "Otherwise it gives a proper one"
  pub answers : (o : List ℕ) → Proper t o → plan_refusal r ≡ 0
  pub proper : plan_refusal r ≡ 0 → ProperList t (take (length_of r) cells)
  -- "if some proper order is whole, a whole one with the answer whole"
  pub whole : (o : List ℕ) → Proper t o → Whole t o → (whole_or_mixed r ≡ 1) × Whole t (labels_of (take (length_of r) cells))
  -- "if none is, one with the answer mixed"
  pub mixed : (o : List ℕ) → Proper t o → ((p : List ℕ) → Proper t p → Whole t p → ⊥) → whole_or_mixed r ≡ 2
  -- order 2 "adds that the values of a Group are side by side if neither it nor a Group around it is in a block of several"
  pub side_by_side : ClearSideBySide t (labels_of (take (length_of r) cells))

-- the whole demand, of a text s: Plan and Run are lent a table of m cells, a plan of p and results of q, and Follow, another day, a table
-- of m' cells and results of q'
pub record Demand3 (s : List ℕ) (m p q m' q' : ℕ) : Type 0 where
  -- the sentences on Plan, above
  pub plan : PlanKept (sheet_table s) (plan_reply s m p) (plan_cells s m p)
  -- "Whatever list Follow is handed, it accepts exactly when that list is a proper order of the sheet"
  pub accepts : (o : List ℤ) → (refusal.refusal_of (follow_reply s o m' q') ≡ 0) ↔ ProperList (sheet_table s) o
  -- "Whichever proper order that is, Follow gives every value the same state, number and step count as Run does": its three cells
  pub same : (o : List ℤ) → ProperList (sheet_table s) o → (v : ℕ) → kind (sheet_table s) v ≡ value_code
      → label_cells 3 (follow_results s o m' q') v ≡ label_cells 3 (run_results s m p q) v
  -- "and they are those of document 01's Working out": they satisfy its rules, and no others do. Order 5: "Values are judged under the
  -- rule that the sheet's own first line names"
  pub evaluated : (o : List ℤ) → ProperList (sheet_table s) o → Evaluated (arithmetic_of s) (sheet_table s) (follow_results s o m' q')
  pub only : (o : List ℤ) → ProperList (sheet_table s) o → (r : List ℤ) → length r ≡ q' → Evaluated (arithmetic_of s) (sheet_table s) r → r ≡ follow_results s o m' q'

-- "A value read before it has been worked out puts another prism on the block": results in q cells are what one comes to by evaluating
-- the values of the order o in turn, from zeros, and at each one's turn it reads only those that have been evaluated
pub record EvaluatedDown (α : Arithmetic) (t : List ℤ) (o : List ℕ) (q : ℕ) (results : List ℤ) : Type 0 where
  pub reached : results ≡ down (evaluate_into α t) o (zeros q)
  pub never : NeverEarly α t o (zeros q)
