use Rattle.redoing.proofs.Windows.{Finding}
use Rattle.redoing.proofs.MarkedPlan.find_windows.Given as goal

abbrev pub invariant-loop-k : goal.invariant-loop-k
invariant-loop-k l = Finding l.sheet.cells.now l.self.n l.self.plan.now l.self.square.now l.pairs l.initial.windows l.windows l.k
