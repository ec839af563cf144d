use Rattle.redoing.proofs.Owners.{Marking}
use Rattle.redoing.proofs.mark_owners.Given as goal

abbrev pub invariant-loop-k : goal.invariant-loop-k
invariant-loop-k l =
    Marking l.chains.sheet.cells.now l.chains.sheet.n l.chains.column l.pairs l.initial.state l.initial.square l.state l.square l.k
