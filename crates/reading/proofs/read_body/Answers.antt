-- Row 4, then rows 5 to 15.
use mathlib.Core.Path.{◌∙◌, ap}
use native.Mathlib.Omega.{arith}
use Rattle.cells.specs.Cells.{zeros}
use Rattle.lines.proofs.Heads.{refusal_is}
use Rattle.reading.proofs.Stage.{table_short_lem, sheet_leaves, refused_leaves}
use Rattle.reading.proofs.read_body.Goals as goal

pub returns-then-table-n : goal.returns-then-table-n
returns-then-table-n c = rw (refusal_is c.at.result _ 1 c.at.ensures) (table_short_lem _ _ _ c.requires _ (omega arith) c.clear.ensures)

pub returns-in-Ok : goal.returns-in-Ok
returns-in-Ok c = sheet_leaves _ _ _ c.requires (omega arith) _ _ c.read_sheet.ensures c.in-Ok.is

pub returns-in-Err : goal.returns-in-Err
returns-in-Err c =
    refused_leaves _ _ _ c.requires (omega arith) _ _ c.read_sheet.ensures _ _ c.in-Err.is
    (c.clear-in-Err.ensures ∙ ap zeros c.read_sheet.auto.table)
