use Rattle.redoing.proofs.Down.{Going}
use Rattle.redoing.proofs.Retoucher.redo_down.Given as goal

abbrev pub invariant-loop-i : goal.invariant-loop-i
invariant-loop-i l = Going l.self.arithmetic l.table l.self.marked.n l.part l.self.marked.square.now l.d l.initial.results l.initial.change l.results l.change l.i
