use Rattle.redoing.proofs.Applied.{Applying}
use Rattle.redoing.proofs.Retoucher.apply.Given as goal

abbrev pub invariant-loop-k : goal.invariant-loop-k
invariant-loop-k l = Applying l.self.arithmetic l.initial.table l.self.marked.n l.self.marked.plan.now l.pairs l.initial.results l.initial.changes l.table l.results l.changes l.change l.k
