-- "It answers as Run does": where Run refuses, and with an empty list, Retouch is Run.
use mathlib.Core.Path.{◌≡◌, refl, ap, ◌∙◌}
use Rattle.refusals.specs.declared.Refusal.{Refusal}
use Rattle.std.specs.Prelude.{Ok, Err}
use Rattle.refusals.specs.declared.Refusal.{Refusal}
use mathlib.Core.List.{List, []}
use Prim.Native.Nat.{ℕ, ◌-◌}
use native.Mathlib.Omega.{arith}
use lib.IntN.{ℤ}
use borrow.Author.Tests.{le-leb}
use Rattle.cells.specs.Cells.{zeros}
use Rattle.refusals.specs.Refusal.{or_else, Verdict, Fine}
use Rattle.reading.specs.Read.{sheet_table, table_of}
use Rattle.calls.specs.Buffers.{run_buffers}
use Rattle.calls.specs.Plan.{planned_bad, plan_of, answer_by, listed_by}
use Rattle.calls.specs.Run.{results_by, run_bad, run_reply, run_table, run_plan, run_results}
use Rattle.retouching.specs.Retouch.{changes_short, list_bad, pairs_bad, retouch_bad, retouched, retouched_by, final_by, changes_by}
use Rattle.retouching.specs.Retouch.{retouch_reply, retouch_table, retouch_plan, retouch_results, retouch_changes}

or_none : (v : Verdict) → or_else v Fine ≡ v
or_none (Ok _) = refl
or_none (Err e) = refl

module _ (s : List ℕ) (ps : List ℤ) (m p q w : ℕ) (e : changes_short ps w ≡ Fine) where
  -- its rows are Run's, then those of the list
  rows_of_run : retouch_bad s ps m p q w ≡ or_else (run_bad s m p q) (pairs_bad (sheet_table s) ps)
  unfolding retouch_bad run_bad
  rows_of_run = ap (λ (b : Verdict). or_else (planned_bad s b) (pairs_bad (sheet_table s) ps)) (ap (or_else (run_buffers s m p q)) e ∙ or_none (run_buffers s m p q))

  -- a refusal of Run's is Retouch's, whatever the list holds
  pub refused_as_run : (i : Refusal) → run_bad s m p q ≡ Err i → retouch_bad s ps m p q w ≡ Err i
  refused_as_run i f = rows_of_run ∙ ap (λ (v : Verdict). or_else v (pairs_bad (sheet_table s) ps)) f

-- an empty list
module _ (s : List ℕ) (m p q w : ℕ) where
  no_pairs : retouch_bad s [] m p q w ≡ run_bad s m p q
  unfolding changes_short list_bad pairs_bad
  no_pairs = rows_of_run s [] m p q w (rw (le-leb 0 w (omega arith)) refl) ∙ or_none (run_bad s m p q)

  table_kept : (v : Verdict) → retouched_by v s [] m ≡ table_of v s m
  unfolding retouched
  table_kept (Ok _) = refl
  table_kept (Err e) = refl

  results_kept : (v : Verdict) → final_by v s [] q ≡ results_by v s q
  unfolding retouched
  results_kept (Ok _) = refl
  results_kept (Err e) = refl

  no_changes : (v : Verdict) → changes_by v s [] w ≡ zeros w
  no_changes (Ok _) = let e : w - 0 ≡ w = omega arith in ap zeros e
  no_changes (Err e) = refl

  pub empty_as_run : (retouch_reply s [] m p q w ≡ run_reply s m p q) × (retouch_table s [] m p q w ≡ run_table s m p q) × (retouch_plan s [] m p q w ≡ run_plan s m p q)
      × (retouch_results s [] m p q w ≡ run_results s m p q) × (retouch_changes s [] m p q w ≡ zeros w)
  unfolding retouch_reply retouch_table retouch_plan retouch_results retouch_changes run_reply run_table run_plan run_results
  empty_as_run = (
    ap (λ (v : Verdict). answer_by v (plan_of s)) no_pairs,
    ap (λ (v : Verdict). retouched_by v s [] m) no_pairs ∙ table_kept (run_bad s m p q),
    ap (λ (v : Verdict). listed_by v (plan_of s) p) no_pairs,
    ap (λ (v : Verdict). final_by v s [] q) no_pairs ∙ results_kept (run_bad s m p q),
    no_changes (retouch_bad s [] m p q w),
  )
