-- Document 01's Follow: the text s, an order list o of any integers, a table lent with m cells and results with q.
use Rattle.std.specs.Prelude.{List, ℕ, ℤ, length}
use Rattle.refusals.specs.Refusal.{or_else, reply_of, Verdict, Reply}
use Rattle.lines.specs.Lines.{labels}
use Rattle.reading.specs.Read.{sheet_table, table_of}
use Rattle.order.specs.Rows16to18.{order_bad}
use Rattle.calls.specs.Buffers.{follow_buffers}
use Rattle.calls.specs.Plan.{planned_bad}
use Rattle.calls.specs.Run.{results_by}

-- rows 1 to 18
unfoldable pub follow_bad : List ℕ → List ℤ → ℕ → ℕ → Verdict
follow_bad s o m q = or_else (planned_bad s (follow_buffers s m q)) (order_bad (sheet_table s) (labels s) o)

-- "and answers its length"
unfoldable pub follow_reply : List ℕ → List ℤ → ℕ → ℕ → Reply
follow_reply s o m q = reply_of (follow_bad s o m q) (length o)

unfoldable pub follow_table : List ℕ → List ℤ → ℕ → ℕ → List ℤ
follow_table s o m q = table_of (follow_bad s o m q) s m

unfoldable pub follow_results : List ℕ → List ℤ → ℕ → ℕ → List ℤ
follow_results s o m q = results_by (follow_bad s o m q) s q
