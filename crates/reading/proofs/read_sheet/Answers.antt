-- The lines, zeros behind them, and the other rows.
use Rattle.std.proofs.lemmas.Result.{err_from_is_err_and}
use Rattle.reading.proofs.Stage.{lined_left, sheet_resolved, sheet_refused}
use Rattle.reading.proofs.read_sheet.Goals as goal

pub resolve-requires : goal.resolve-requires
resolve-requires c =
    lined_left _ _ c.args.table.now _ _ c.requires.0.count c.requires.1 c.read_lines.ensures.value _
    c.requires.0.head c.in_ok-read_lines.was c.read_lines.ensures.table_after c.clear_from.ensures

pub returns-in_err-read_lines : goal.returns-in_err-read_lines
returns-in_err-read_lines c =
    let p = err_from_is_err_and c.from_residual.result c.from_residual.ensures.1 in
    rw (p.1, p.2) (sheet_refused _ _ c.args.table.now c.read_lines.new.table _ c.requires.0.count c.requires.1
    c.read_lines.ensures.value _ _ c.in_err-read_lines.was)

pub returns : goal.returns
returns c =
    sheet_resolved _ _ c.args.table.now _ _ c.requires.0.count c.requires.1 c.read_lines.ensures.value _ _ _
    c.in_ok-read_lines.was c.read_lines.ensures.table_after c.clear_from.ensures c.resolve.ensures
