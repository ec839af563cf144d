use native.Mathlib.Numerals.{add-one}
use lib.Seq.{take-suc}
use Rattle.printing.proofs.Writing.{puts_then}
use Rattle.printing.proofs.Writer.put_all.Goals as goal

pub loop-byte-preserved : goal.loop-byte-preserved
loop-byte-preserved c =
    rw (add-one, take-suc c.args.bytes.now c.loop-byte.byte-index 0 c.loop-byte-test.true) (puts_then c.loop-byte.invariant c.put.ensures)
