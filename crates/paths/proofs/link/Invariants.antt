use Rattle.paths.proofs.Linking.{Linking}
use Rattle.paths.proofs.link.Given as goal

abbrev pub invariant-loop-label : goal.invariant-loop-label
invariant-loop-label l = Linking l.text l.table l.n l.starts l.initial.links l.links l.label
