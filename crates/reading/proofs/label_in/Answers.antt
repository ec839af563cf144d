-- By the test.
use mir.Syntax.{w64}
use mir.Facts.{to_z-of_z}
use Rattle.reading.proofs.Named.{label_inside, label_outside}
use Rattle.reading.proofs.label_in.Goals as goal

pub returns-then-l-n : goal.returns-then-l-n
returns-then-l-n c = label_inside c.args.n c.args.label _ (rw (to_z-of_z {w = w64} c.ranges.label) at c.nat_of-l.ensures) c.if-l-n.true

pub returns-else-l-n : goal.returns-else-l-n
returns-else-l-n c = label_outside c.args.n c.args.label _ (rw (to_z-of_z {w = w64} c.ranges.label) at c.nat_of-l.ensures) c.if-l-n.false
