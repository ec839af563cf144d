-- A plan, or a cycle.
use mathlib.Core.Path.{refl, sym}
use Prim.Native.Nat.{◌*◌}
use lib.Seq.{length-take-le}
use Rattle.std.specs.Prelude.{Ok, Err}
use Rattle.lines.proofs.Heads.{refusal_is}
use Rattle.calls.proofs.Answers.{table_plans}
use Rattle.calls.proofs.plan_table.Goals as goal

pub slice_bounds-sheet-end-2 : goal.slice_bounds-sheet-end-2
slice_bounds-sheet-end-2 c = sym (length-take-le (8 * c.args.n) c.args.table.now c.requires.1)

pub invariant_of-sheet : goal.invariant_of-sheet
invariant_of-sheet c = record { accepted = c.requires.0 }

pub returns-in-Ok : goal.returns-in-Ok
returns-in-Ok c = table_plans _ _ _ _ _ c.requires.0 c.plan_of.ensures (Ok _) _ _ c.in-Ok.is refl (rw c.count.ensures at c.clear_from.ensures)

pub returns-in-Err : goal.returns-in-Err
returns-in-Err c =
    let zeroed = c.clear_both.ensures in
    rw (refusal_is c.at.result _ _ c.at.ensures) (table_plans _ _ _ _ _ c.requires.0 c.plan_of.ensures (Err _) _ _ c.in-Err.is zeroed.first_after zeroed.second_after)
