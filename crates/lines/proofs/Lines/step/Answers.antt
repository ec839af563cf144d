use mathlib.Core.Path.{◌∙◌, sym, ap}
use Prim.Native.Nat.{◌-◌, ◌*◌}
use native.Mathlib.Omega.{arith}
use Rattle.lines.specs.LineSteps.{line_written}
use Rattle.lines.proofs.Pass.{passes_inside, cells_put}
use Rattle.lines.proofs.Lines.step.Goals as goal

pub overflow_add-result : goal.overflow_add-result
overflow_add-result c =
    omega (arith, passes_inside c.args.self.n c.args.label c.args.self.text.now c.args.at c.requires.at_in_bounds c.args.self.ends c.in_ok-row.row (sym c.in_ok-row.ensures))

pub returns-clause-table_after : goal.returns-clause-table_after
returns-clause-table_after c =
    let args = c.args in
    cells_put args.table.now (8 * (args.label - 1)) (8 * args.label - 8 * (args.label - 1)) c.in_ok-row.row c.write.new.row c.write.ensures (omega arith) (omega arith)
    ∙ ap (λ r. line_written r (8 * (args.label - 1)) args.table.now) c.in_ok-row.ensures
