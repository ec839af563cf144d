-- Two cells of the label in the table that Read leaves.
use mir.Syntax.{w64}
use mathlib.Core.Path.{refl}
use mir.Facts.{to_z-of_z}
use lib.ListN.{length}
use Rattle.reading.proofs.Named.{part_answered, part_refused}
use Rattle.reading.proofs.name_part.Goals as goal

pub returns-in-Ok : goal.returns-in-Ok
returns-in-Ok c =
    let leaves = c.read.ensures in
    part_answered c.args.text.now (length c.args.table.now) c.args.label _ _ _ _ (rw c.in-Ok.is at leaves)
    (rw (to_z-of_z {w = w64} c.ranges.label) at c.label_in-l.ensures) c.cell_at.ensures c.cell_at-in-Ok.ensures

pub returns-in-Err : goal.returns-in-Err
returns-in-Err c = part_refused c.args.text.now (length c.args.table.now) c.args.label _ _ _ (rw c.in-Err.is at c.read.ensures) refl refl
