use lib.ListN.{take}
use Rattle.printing.specs.Writing.{Puts}
use Rattle.printing.proofs.Writer.put_all.Given as goal

abbrev pub invariant-loop-byte : goal.invariant-loop-byte
invariant-loop-byte l = Puts l.initial.self (take l.byte-index l.bytes) l.self
