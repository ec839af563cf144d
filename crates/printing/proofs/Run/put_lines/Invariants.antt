use Rattle.printing.specs.Print.{plan_lines}
use Rattle.printing.specs.Writing.{Puts}
use Rattle.printing.proofs.Run.put_lines.Given as goal

abbrev pub invariant-loop-cell : goal.invariant-loop-cell
invariant-loop-cell l =
    let run = l.self in
    Puts l.initial.writer (plan_lines run.text.now run.table.now l.plan l.cell-index run.results.now run.word.now) l.writer
