use Rattle.printing.proofs.Runs.{names_in_lem, count_in}
use Rattle.printing.proofs.Bounds.{answer_written, refusal_written}
use native.Mathlib.Omega.{arith}
use lib.ListN.{length-take}
use Rattle.std.proofs.Common.{rules}
use Rattle.printing.proofs.Writing.{left_as}
use Rattle.printing.proofs.print_with.Goals as goal

pub invariant_of-run : goal.invariant_of-run
invariant_of-run c = record { names = names_in_lem _ _ _ _ _ _ _ _ c.run.ensures _ c.in-Ok.is }

pub slice_bounds-put_answer-end : goal.slice_bounds-put_answer-end
slice_bounds-put_answer-end c = rw c.count.ensures (count_in _ _ _ _ _ _ _ _ c.run.ensures _ c.in-Ok.is)

pub slice_bounds-put_answer-end-in-Ok : goal.slice_bounds-put_answer-end-in-Ok
slice_bounds-put_answer-end-in-Ok c =
    let h = count_in _ _ _ _ _ _ _ _ c.run.ensures _ c.in-Ok.is in
    omega (arith, h, c.count.ensures, length-take c.count.result c.run.new.plan)

pub returns-in-Ok : goal.returns-in-Ok
returns-in-Ok c =
    let wrote = (rw (c.count.ensures, c.word_of.ensures) at c.put_answer.ensures).wrote in
    left_as _ _ _ _ _ _ _ (answer_written _ _ _ _ _ _ _ _ c.run.ensures _ c.in-Ok.is _ _ _ wrote) _ (search (rules, c.put_answer.ensures.same))

pub returns-in-Err : goal.returns-in-Err
returns-in-Err c =
    let written = refusal_written _ _ _ _ _ _ _ _ c.run.ensures _ c.in-Err.is _ _ _ (omega (arith, c.number.ensures)) (omega arith) c.put_refusal.ensures.wrote in
    rw c.number.ensures (left_as _ _ _ _ _ _ _ written _ (search (rules, c.put_refusal.ensures.same)))
