use Rattle.text.proofs.Scanned.{NamesLeft}
use Rattle.text.proofs.scan_path.Given as goal

abbrev pub invariant-loop-name : goal.invariant-loop-name
invariant-loop-name l = NamesLeft l.text l.from l.at l._name
