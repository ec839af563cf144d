-- The part of the text from its start to its end.
use mir.Syntax.{w64}
use mir.Facts.{to_z-of_z}
use lib.ListN.{length}
use Rattle.reading.proofs.Named.{part_handed}
use Rattle.reading.proofs.name.Goals as goal

pub returns : goal.returns
returns c =
    part_handed c.args.text.now (length c.args.table.now) c.args.label _ _ c.args.text.ref_ptr
    (rw (to_z-of_z {w = w64} c.ranges.label) at c.name_part-part.ensures)
