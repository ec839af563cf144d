use mathlib.Core.Path.{◌≡◌}
use native.Mathlib.Omega.{arith}
use Rattle.std.proofs.Common.{rules}
use Rattle.cells.specs.Cells.{nat_at}
use Rattle.printing.proofs.Lines.{lines_none, one_line_more}
use Rattle.printing.proofs.Writing.{puts_nothing, puts_then}
use Rattle.printing.proofs.Run.put_lines.Goals as goal

pub loop-cell-init : goal.loop-cell-init
loop-cell-init c =
    let run = c.args.self.now in
    rw (lines_none run.text.now run.table.now run.results.now run.word.now c.args.plan.now) (puts_nothing c.args.writer.now (omega arith) (omega arith))

pub loop-cell-preserved : goal.loop-cell-preserved
loop-cell-preserved c =
    let run = c.args.self.now in
    let label : c.nat_of.result ≡ nat_at c.args.plan.now c.loop-cell.cell-index = search rules in
    let more = one_line_more run.text.now run.table.now run.results.now run.word.now c.args.plan.now c.loop-cell.cell-index _ c.loop-cell-test.true label in
    rw more (puts_then c.loop-cell.invariant c.put_line.ensures)
